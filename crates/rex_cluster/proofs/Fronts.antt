-- Fronts of lists. Of two chosen lists the shorter begins the longer, and each front of one fits.
use Rattle.std.proofs.Common.{◌≡◌, ℕ, zero, suc, ◌+◌, ◌<◌, ◌≤◌, true, ◌⊎◌, List, [], ◌∷◌, ◌++◌, length, Some, refl, sym, ◌∙◌, ap, subst, inl, inr, arith, le_refl, length-append}
use Rattle.std.specs.Prelude.{take}
use Rattle.std.proofs.lemmas.Bool.{cases_lt}
use Rattle.rex_cluster.specs.Records.{Rec, known, base}
use Rattle.rex_cluster.specs.Records.Rec.{Promised, Accepted, Known, Checkpoint, Dropped, Transferred}
use Rattle.rex_cluster.specs.Quorum.{Logs, Chosen, AllChosen, AllGiven}
use Rattle.rex_cluster.specs.Node.{Service}
use Rattle.rex_cluster.specs.Invariant.{Begins, AreRecords, AreSafe}
use Rattle.std.proofs.lemmas.Option.{same_Some}
use Rattle.rex_cluster.specs.Agreed.{base_state}
use Rattle.rex_cluster.proofs.Agree.{agreement, owned}
use Rattle.rex_cluster.proofs.Settle.{by_chosen, all_chosen_same}

module _ {V : Type 0} where
  cons_same : {x y : V} {xs ys : List V} → x ≡ y → xs ≡ ys → x ∷ xs ≡ y ∷ ys
  cons_same e f = cc

  pub begins_cons : {a b : V} (p q : List V) → a ≡ b → Begins p q → Begins (a ∷ p) (b ∷ q)
  begins_cons {a} {b} p q e h = (h.0, cons_same e h.1)

  pub head_of : {x y : V} {xs ys : List V} → x ∷ xs ≡ y ∷ ys → x ≡ y
  head_of e = cc

  pub tail_of : {x y : V} {xs ys : List V} → x ∷ xs ≡ y ∷ ys → xs ≡ ys
  tail_of e = cc

  pub nil_not : {x : V} {xs : List V} → x ∷ xs ≡ [] → ⊥
  nil_not e = cc

  -- of two fronts of a list the one that isn't the longer one is the same as the other, or shorter
  pub same_fronts : (xs ys zs : List V) → Begins xs zs → Begins ys zs → length xs ≡ length ys → xs ≡ ys
  same_fronts [] [] zs a b e = refl
  same_fronts [] (y ∷ ys) zs a b e = absurd (omega (arith, e))
  same_fronts (x ∷ xs) [] zs a b e = absurd (omega (arith, e))
  same_fronts (x ∷ xs) (y ∷ ys) [] a b e = absurd (nil_not a.1)
  same_fronts (x ∷ xs) (y ∷ ys) (z ∷ zs) a b e =
      cons_same (head_of a.1 ∙ sym (head_of b.1))
      (same_fronts xs ys zs (a.0, tail_of a.1) (b.0, tail_of b.1) (omega (arith, e)))

  -- a front that isn't shorter is the whole
  pub whole_front : (xs zs : List V) → Begins xs zs → length zs ≤ length xs → xs ≡ zs
  whole_front [] [] a l = refl
  whole_front [] (z ∷ zs) a l = absurd (omega (arith, l))
  whole_front (x ∷ xs) [] a l = absurd (nil_not a.1)
  whole_front (x ∷ xs) (z ∷ zs) a l =
      cons_same (head_of a.1) (whole_front xs zs (a.0, tail_of a.1) (omega (arith, l)))

  pub take_all : (vs : List V) (k : ℕ) → length vs ≤ k → take k vs ≡ vs
  take_all [] zero l = refl
  take_all [] (suc k) l = refl
  take_all (v ∷ vs) zero l = absurd (omega arith)
  take_all (v ∷ vs) (suc k) l = ap (λ xs. v ∷ xs) (take_all vs k (omega arith))

  pub take_front : (xs ys : List V) (k : ℕ) → k ≤ length xs → take k (xs ++ ys) ≡ take k xs
  take_front [] [] zero l = refl
  take_front [] (y ∷ ys) zero l = refl
  take_front [] ys (suc k) l = absurd (omega arith)
  take_front (x ∷ xs) ys zero l = refl
  take_front (x ∷ xs) ys (suc k) l = ap (λ zs. x ∷ zs) (take_front xs ys k (omega arith))

module _ {V S : Type 0} where
  -- of two lists of chosen values the shorter one begins the longer one
  pub prefix_of : (n : ℕ) (sv : Service V S) (L : Logs V S) → AreSafe n sv L → (k : ℕ) (xs ys : List V) → AllChosen n L k xs → AllChosen n L k ys → length xs ≤ length ys → Begins xs ys
  prefix_of n sv L s k [] ys x y l = (ys, refl)
  prefix_of n sv L s k (v ∷ xs) [] x y l = absurd (omega arith)
  prefix_of n sv L s k (v ∷ xs) (u ∷ ys) x y l = begins_cons xs ys (agreement n sv L s k v u x.0 y.0) (prefix_of n sv L s (suc k) xs ys x.1 y.1 (omega arith))

  pub all_chosen_take : (n : ℕ) (L : Logs V S) (k : ℕ) (vs : List V) (j : ℕ) → AllChosen n L k vs → AllChosen n L k (take j vs)
  all_chosen_take n L k [] zero h = tt
  all_chosen_take n L k [] (suc j) h = tt
  all_chosen_take n L k (v ∷ vs) zero h = tt
  all_chosen_take n L k (v ∷ vs) (suc j) h = (h.0, all_chosen_take n L (suc k) vs j h.1)

  pub all_given_take : (n : ℕ) (L : Logs V S) (k : ℕ) (vs : List V) (j : ℕ) → AllGiven n L k vs → AllGiven n L k (take j vs)
  all_given_take n L k [] zero h = tt
  all_given_take n L k [] (suc j) h = tt
  all_given_take n L k (v ∷ vs) zero h = tt
  all_given_take n L k (v ∷ vs) (suc j) h = (h.0, all_given_take n L (suc k) vs j h.1)

  -- the value at a place is chosen for its instance, and ends the front up to it
  pub chosen_at : (n : ℕ) (L : Logs V S) (k : ℕ) (vs : List V) (j : ℕ) → AllChosen n L k vs → j < length vs → (v : V) × Chosen n L (k + j) v × (take (suc j) vs ≡ take j vs ++ v ∷ []) × (length (take j vs) ≡ j)
  chosen_at n L k [] j h l = absurd (omega arith)
  chosen_at n L k (v ∷ vs) zero h l = (v, subst (λ i. Chosen n L i v) (omega arith) h.0, first vs, refl)
    where
      first : (xs : List V) → v ∷ take zero xs ≡ v ∷ []
      first [] = refl
      first (x ∷ xs) = refl
  chosen_at n L k (v ∷ vs) (suc j) h l =
      let r = chosen_at n L (suc k) vs j h.1 (omega arith) in
      (r.0, subst (λ i. Chosen n L i r.0) (omega arith) r.1, ap (λ xs. v ∷ xs) r.2, ap suc r.3)

  -- each front of a list of chosen values fits
  module _ (n : ℕ) (sv : Service V S) (L : Logs V S) (s : AreSafe n sv L) (vs : List V) (c : AllChosen n L 1 vs) (none : sv.fits [] ≡ true) where
    fits_at : (j : ℕ) → j < length vs → sv.fits (take (suc j) vs) ≡ true
    fits_at j l =
        let r = chosen_at n L 1 vs j c l in
        let o = owned n sv L s r.1.ballot (1 + j) r.0 r.1.quorum in
        let p = s.prior r.1.ballot (1 + j) r.0 o.0 o.1 in
        let e : p.values ≡ take j vs = all_chosen_same n sv L s 1 p.values (take j vs) (by_chosen n L r.1.ballot 1 p.values p.chosen) (all_chosen_take n L 1 vs j c) (omega (arith, p.place, r.3)) in
        subst (λ xs. sv.fits xs ≡ true) (sym r.2) (subst (λ xs. sv.fits (xs ++ r.0 ∷ []) ≡ true) e p.fits)

    pub fits_front : (k : ℕ) → sv.fits (take k vs) ≡ true
    fits_front k = go (cases_lt k (suc (length vs)))
      where
        within : (j : ℕ) → j ≤ length vs → sv.fits (take j vs) ≡ true
        within zero l = subst (λ xs. sv.fits xs ≡ true) (sym (nothing vs)) none
          where
            nothing : (xs : List V) → take zero xs ≡ []
            nothing [] = refl
            nothing (x ∷ xs) = refl
        within (suc j) l = fits_at j l

        go : (k < suc (length vs)) ⊎ (suc (length vs) ≤ k) → sv.fits (take k vs) ≡ true
        go (inl l) = within k (omega arith)
        go (inr l) = subst (λ xs. sv.fits xs ≡ true) (take_all vs (length vs) (le_refl _) ∙ sym (take_all vs k (omega arith))) (within (length vs) (le_refl _))

  -- ---- the base

  -- a state at a base is the one after known values, also once more are known
  pub base_right : (sv : Service V S) (log : List (Rec V S)) → AreRecords sv log → (s : S) → base_state log ≡ Some s → (base log ≤ length (known log)) × (s ≡ sv.state (take (base log) (known log)))
  base_right sv [] r s e = absurd (cc)
  base_right sv (Promised b ∷ log) r s e = base_right sv log r s e
  base_right sv (Accepted b i v ∷ log) r s e = base_right sv log r.1 s e
  base_right sv (Known i v ∷ log) r s e =
      let h = base_right sv log r.1 s e in
      (omega (arith, h.0, length-append (known log) (v ∷ [])), h.1 ∙ ap sv.state (sym (take_front (known log) (v ∷ []) (base log) h.0)))
  base_right sv (Checkpoint version k t ∷ log) r s e = (r.0.2, subst (λ x. x ≡ sv.state (take k (known log))) (same_Some t s e) r.0.3)
  base_right sv (Dropped k ∷ log) r s e = base_right sv log r.1 s e
  base_right sv (Transferred values t ∷ log) r s e =
      (le_refl _, subst (λ x. x ≡ sv.state (take (length values) values)) (same_Some t s e) (r.0.2 ∙ ap sv.state (sym (take_all values (length values) (le_refl _)))))
