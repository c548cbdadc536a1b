-- Lists of proposals: the best one, and that the last acceptances cover all.
use Rattle.std.proofs.Common.{◌≡◌, ℕ, suc, ◌<◌, ◌≤◌, ◌≢◌, Bool, true, false, cond, ◌||◌, ◌⊎◌, List, [], ◌∷◌, ◌++◌, length, Option, Some, None, eqb, ltb, leb, refl, sym, ◌∙◌, ap, subst, inl, inr, arith, le_trans, le_refl, le_of_eq, eqb-true, leb-true, leb-false, length-append}
use Rattle.std.proofs.lemmas.Bool.{eqb-false}
use Rattle.rex_cluster.specs.Records.{Rec, Proposal, proposal_of, placed, last_accepted, accepted, from_on, offset, known, base, HasAccepted}
use Rattle.rex_cluster.specs.Records.Rec.{Promised, Accepted, Known, Checkpoint, Dropped, Transferred}
use Rattle.rex_cluster.specs.Quorum.{is_in}
use Rattle.rex_cluster.specs.Node.{Service}
use Rattle.rex_cluster.specs.Invariant.{IsIn, Covers, AreRecords}
use Rattle.rex_cluster.specs.Calls.{better, best}
use Rattle.rex_cluster.proofs.Step.{acc_below}

pub in_left : {A : Type 0} (x : A) (xs ys : List A) → IsIn x xs → IsIn x (xs ++ ys)
in_left x [] ys h = absurd h
in_left x (y ∷ xs) ys (inl e) = inl e
in_left x (y ∷ xs) ys (inr h) = inr (in_left x xs ys h)

pub in_right : {A : Type 0} (x : A) (xs ys : List A) → IsIn x ys → IsIn x (xs ++ ys)
in_right x [] ys h = h
in_right x (y ∷ xs) ys h = inr (in_right x xs ys h)

pub in_cases : {A : Type 0} (x : A) (xs ys : List A) → IsIn x (xs ++ ys) → IsIn x xs ⊎ IsIn x ys
in_cases x [] ys h = inr h
in_cases x (y ∷ xs) ys (inl e) = inl (inl e)
in_cases x (y ∷ xs) ys (inr h) = go (in_cases x xs ys h)
  where
    go : IsIn x xs ⊎ IsIn x ys → IsIn x (y ∷ xs) ⊎ IsIn x ys
    go (inl a) = inl (inr a)
    go (inr a) = inr a

-- a number is in a longer list where it is in the list or is the new one
pub is_in_push : (q x : ℕ) (xs : List ℕ) → is_in q (xs ++ x ∷ []) ≡ is_in q xs || eqb q x
is_in_push q x [] = or_false (eqb q x)
  where
    or_false : (t : Bool) → t || false ≡ t
    or_false true = refl
    or_false false = refl
is_in_push q x (y ∷ ys) = step (eqb q y) (is_in_push q x ys)
  where
    step : (t : Bool) → is_in q (ys ++ x ∷ []) ≡ is_in q ys || eqb q x → t || is_in q (ys ++ x ∷ []) ≡ (t || is_in q ys) || eqb q x
    step true h = refl
    step false h = h

module _ {V : Type 0} where
  pub length_push : (xs : List V) (v : V) → length (xs ++ v ∷ []) ≡ suc (length xs)
  length_push xs v = omega (arith, length-append xs (v ∷ []))

  pub covers_left : (ps qs : List (Proposal V)) (i c : ℕ) → Covers ps i c → Covers (ps ++ qs) i c
  covers_left ps qs i c h = record { it = h.it; inside = in_left h.it ps qs h.inside; at = h.at; above = h.above }

  pub covers_right : (ps qs : List (Proposal V)) (i c : ℕ) → Covers qs i c → Covers (ps ++ qs) i c
  covers_right ps qs i c h = record { it = h.it; inside = in_right h.it ps qs h.inside; at = h.at; above = h.above }

  covers_split : (p : Proposal V) (ps : List (Proposal V)) (i c : ℕ) → Covers (p ∷ ps) i c → ((p.instance ≡ i) × (c ≤ p.ballot)) ⊎ Covers ps i c
  covers_split p ps i c h = go h.inside
    where
      go : IsIn h.it (p ∷ ps) → ((p.instance ≡ i) × (c ≤ p.ballot)) ⊎ Covers ps i c
      go (inl e) = inl (subst (λ x. x.instance ≡ i) e h.at, subst (λ x. c ≤ x.ballot) e h.above)
      go (inr x) = inr (record { it = h.it; inside = x; at = h.at; above = h.above })

  abbrev pub BestOk : ℕ → List (Proposal V) → Option (Proposal V) → Type 0
  BestOk i ps None = (c : ℕ) → Covers ps i c → ⊥
  BestOk i ps (Some p) = IsIn p ps × (p.instance ≡ i) × ((c : ℕ) → Covers ps i c → c ≤ p.ballot)

  pub best_ok : (i : ℕ) (ps : List (Proposal V)) → BestOk i ps (best i ps)
  best_ok i [] = λ c h. h.inside
  best_ok i (p ∷ ps) = go (eqb p.instance i) refl (best i ps) (best_ok i ps)
    where
      pick : (q : Proposal V) → p.instance ≡ i → BestOk i ps (Some q) → (t : Bool) → leb q.ballot p.ballot ≡ t → BestOk i (p ∷ ps) (cond t (Some p) (Some q))
      pick q at ih true e = (inl refl, at, λ c h. low c (covers_split p ps i c h))
        where
          low : (c : ℕ) → ((p.instance ≡ i) × (c ≤ p.ballot)) ⊎ Covers ps i c → c ≤ p.ballot
          low c (inl x) = x.1
          low c (inr x) = le_trans (ih.2 c x) (leb-true q.ballot p.ballot e)
      pick q at ih false e = (inr ih.0, ih.1, λ c h. low c (covers_split p ps i c h))
        where
          low : (c : ℕ) → ((p.instance ≡ i) × (c ≤ p.ballot)) ⊎ Covers ps i c → c ≤ q.ballot
          low c (inl x) = let y = leb-false q.ballot p.ballot e in omega (arith, x.1)
          low c (inr x) = ih.2 c x

      take : p.instance ≡ i → (r : Option (Proposal V)) → BestOk i ps r → BestOk i (p ∷ ps) (better p r)
      take at None ih = (inl refl, at, λ c h. low c (covers_split p ps i c h))
        where
          low : (c : ℕ) → ((p.instance ≡ i) × (c ≤ p.ballot)) ⊎ Covers ps i c → c ≤ p.ballot
          low c (inl x) = x.1
          low c (inr x) = absurd (ih c x)
      take at (Some q) ih = pick q at ih (leb q.ballot p.ballot) refl

      skip : p.instance ≢ i → (r : Option (Proposal V)) → BestOk i ps r → BestOk i (p ∷ ps) r
      skip d None ih = λ c h. no c (covers_split p ps i c h)
        where
          no : (c : ℕ) → ((p.instance ≡ i) × (c ≤ p.ballot)) ⊎ Covers ps i c → ⊥
          no c (inl x) = d x.0
          no c (inr x) = ih c x
      skip d (Some q) ih = (inr ih.0, ih.1, λ c h. low c (covers_split p ps i c h))
        where
          low : (c : ℕ) → ((p.instance ≡ i) × (c ≤ p.ballot)) ⊎ Covers ps i c → c ≤ q.ballot
          low c (inl x) = absurd (d x.0)
          low c (inr x) = ih.2 c x

      go : (t : Bool) → eqb p.instance i ≡ t → (r : Option (Proposal V)) → BestOk i ps r → BestOk i (p ∷ ps) (cond t (better p r) r)
      go true e r ih = take (eqb-true p.instance i e) r ih
      go false e r ih = skip (eqb-false p.instance i e) r ih

  -- ---- the last acceptances cover all of the records

  in_placed : (p x : Proposal V) (ps : List (Proposal V)) → IsIn x (placed p ps) → (x ≡ p) ⊎ IsIn x ps
  in_placed p x [] (inl e) = inl e
  in_placed p x [] (inr h) = absurd h
  in_placed p x (q ∷ qs) h = go (eqb p.instance q.instance) (ltb p.instance q.instance) h (in_placed p x qs)
    where
      go : (t u : Bool) → IsIn x (cond t (p ∷ qs) (cond u (p ∷ q ∷ qs) (q ∷ placed p qs))) → (IsIn x (placed p qs) → (x ≡ p) ⊎ IsIn x qs) → (x ≡ p) ⊎ IsIn x (q ∷ qs)
      go true u (inl e) ih = inl e
      go true u (inr h) ih = inr (inr h)
      go false true (inl e) ih = inl e
      go false true (inr h) ih = inr h
      go false false (inl e) ih = inr (inl e)
      go false false (inr h) ih = later (ih h)
        where
          later : (x ≡ p) ⊎ IsIn x qs → (x ≡ p) ⊎ IsIn x (q ∷ qs)
          later (inl e) = inl e
          later (inr y) = inr (inr y)

  placed_here : (p : Proposal V) (ps : List (Proposal V)) → IsIn p (placed p ps)
  placed_here p [] = inl refl
  placed_here p (q ∷ qs) = go (eqb p.instance q.instance) (ltb p.instance q.instance) (placed_here p qs)
    where
      go : (t u : Bool) → IsIn p (placed p qs) → IsIn p (cond t (p ∷ qs) (cond u (p ∷ q ∷ qs) (q ∷ placed p qs)))
      go true u ih = inl refl
      go false true ih = inl refl
      go false false ih = inr ih

  placed_in : (p x : Proposal V) (ps : List (Proposal V)) → IsIn x ps → x.instance ≢ p.instance → IsIn x (placed p ps)
  placed_in p x [] h d = absurd h
  placed_in p x (q ∷ qs) h d = go (eqb p.instance q.instance) refl (ltb p.instance q.instance) h (λ y. placed_in p x qs y d)
    where
      go : (t : Bool) → eqb p.instance q.instance ≡ t → (u : Bool) → IsIn x (q ∷ qs) → (IsIn x qs → IsIn x (placed p qs)) → IsIn x (cond t (p ∷ qs) (cond u (p ∷ q ∷ qs) (q ∷ placed p qs)))
      go true e u (inl s) ih = absurd (d (ap (λ y. y.instance) s ∙ sym (eqb-true p.instance q.instance e)))
      go true e u (inr h) ih = inr h
      go false e true h ih = inr h
      go false e false (inl s) ih = inl s
      go false e false (inr h) ih = inr (ih h)

  pub in_from_on : (first : ℕ) (p : Proposal V) (ps : List (Proposal V)) → IsIn p (from_on first ps) → IsIn p ps
  in_from_on first p [] h = h
  in_from_on first p (q ∷ ps) h = go (leb first q.instance) h (in_from_on first p ps)
    where
      go : (t : Bool) → IsIn p (cond t (q ∷ from_on first ps) (from_on first ps)) → (IsIn p (from_on first ps) → IsIn p ps) → IsIn p (q ∷ ps)
      go true (inl e) ih = inl e
      go true (inr h) ih = inr (ih h)
      go false h ih = inr (ih h)

  -- it is of the first instance or a later one
  pub from_on_late : (first : ℕ) (p : Proposal V) (ps : List (Proposal V)) → IsIn p (from_on first ps) → first ≤ p.instance
  from_on_late first p [] h = absurd h
  from_on_late first p (q ∷ ps) h = go (leb first q.instance) refl h (from_on_late first p ps)
    where
      go : (t : Bool) → leb first q.instance ≡ t → IsIn p (cond t (q ∷ from_on first ps) (from_on first ps)) → (IsIn p (from_on first ps) → first ≤ p.instance) → first ≤ p.instance
      go true e (inl s) ih = subst (λ (r : Proposal V). first ≤ r.instance) (sym s) (leb-true first q.instance e)
      go true e (inr i) ih = ih i
      go false e i ih = ih i

  from_on_in : (first : ℕ) (p : Proposal V) (ps : List (Proposal V)) → IsIn p ps → first ≤ p.instance → IsIn p (from_on first ps)
  from_on_in first p [] h l = h
  from_on_in first p (q ∷ ps) h l = go (leb first q.instance) refl h (λ x. from_on_in first p ps x l)
    where
      go : (t : Bool) → leb first q.instance ≡ t → IsIn p (q ∷ ps) → (IsIn p ps → IsIn p (from_on first ps)) → IsIn p (cond t (q ∷ from_on first ps) (from_on first ps))
      go true e (inl s) ih = inl s
      go true e (inr h) ih = inr (ih h)
      go false e (inl s) ih = absurd (omega (arith, leb-false first q.instance e, subst (λ x. first ≤ x.instance) s l))
      go false e (inr h) ih = ih h

  pub from_on_covers : (first : ℕ) (ps : List (Proposal V)) (i c : ℕ) → first ≤ i → Covers ps i c → Covers (from_on first ps) i c
  from_on_covers first ps i c l h = record { it = h.it; inside = from_on_in first h.it ps h.inside (subst (λ x. first ≤ x) (sym h.at) l); at = h.at; above = h.above }

module _ {V S : Type 0} where
  last_real : (log : List (Rec V S)) (p : Proposal V) → IsIn p (last_accepted log) → HasAccepted p.ballot p.instance p.value log
  last_real [] p h = h
  last_real (Promised c ∷ log) p h = last_real log p h
  last_real (Accepted c j w ∷ log) p h = go (in_placed (proposal_of c j w) p (last_accepted log) h) (last_real log p)
    where
      go : (p ≡ proposal_of c j w) ⊎ IsIn p (last_accepted log) → (IsIn p (last_accepted log) → HasAccepted p.ballot p.instance p.value log) → HasAccepted p.ballot p.instance p.value (Accepted c j w ∷ log)
      go (inl e) ih = inl (ap (λ x. x.ballot) e, ap (λ x. x.instance) e, ap (λ x. x.value) e)
      go (inr h) ih = inr (ih h)
  last_real (Known j w ∷ log) p h = last_real log p h
  last_real (Checkpoint version k st ∷ log) p h = last_real log p h
  last_real (Dropped k ∷ log) p h = last_real log p h
  last_real (Transferred values st ∷ log) p h = last_real log p h

  last_covers : (sv : Service V S) (log : List (Rec V S)) → AreRecords sv log → (c i : ℕ) (w : V) → HasAccepted c i w log → Covers (last_accepted log) i c
  last_covers sv [] s c i w h = absurd h
  last_covers sv (Promised b ∷ log) s c i w h = last_covers sv log s c i w h
  last_covers sv (Accepted b j u ∷ log) s c i w (inl e) = record { it = proposal_of b j u; inside = placed_here (proposal_of b j u) (last_accepted log); at = sym e.1; above = omega (arith, e.0) }
  last_covers sv (Accepted b j u ∷ log) s c i w (inr h) = go (eqb i j) refl (last_covers sv log s.1 c i w h)
    where
      go : (t : Bool) → eqb i j ≡ t → Covers (last_accepted log) i c → Covers (placed (proposal_of b j u) (last_accepted log)) i c
      go true e x = record { it = proposal_of b j u; inside = placed_here (proposal_of b j u) (last_accepted log); at = sym (eqb-true i j e); above = le_trans (acc_below c i w log h) s.0 }
      go false e x = record { it = x.it; inside = placed_in (proposal_of b j u) x.it (last_accepted log) x.inside (λ y. eqb-false i j e (sym x.at ∙ y)); at = x.at; above = x.above }
  last_covers sv (Known j u ∷ log) s c i w h = last_covers sv log s.1 c i w h
  last_covers sv (Checkpoint version k st ∷ log) s c i w h = last_covers sv log s.1 c i w h
  last_covers sv (Dropped k ∷ log) s c i w h = last_covers sv log s.1 c i w h
  last_covers sv (Transferred values st ∷ log) s c i w h = last_covers sv log s.1 c i w h

  pub accepted_real : (log : List (Rec V S)) (p : Proposal V) → IsIn p (accepted log) → HasAccepted p.ballot p.instance p.value log
  accepted_real log p h = last_real log p (in_from_on (suc (offset log)) p (last_accepted log) h)

  -- of instances above the offset
  pub accepted_covers : (sv : Service V S) (log : List (Rec V S)) → AreRecords sv log → (c i : ℕ) (w : V) → offset log < i → HasAccepted c i w log → Covers (accepted log) i c
  accepted_covers sv log s c i w l h = from_on_covers (suc (offset log)) (last_accepted log) i c l (last_covers sv log s c i w h)

  -- the base is at most what is known
  pub base_low : (sv : Service V S) (log : List (Rec V S)) → AreRecords sv log → base log ≤ length (known log)
  base_low sv [] s = le_refl _
  base_low sv (Promised b ∷ log) s = base_low sv log s
  base_low sv (Accepted b j u ∷ log) s = base_low sv log s.1
  base_low sv (Known j u ∷ log) s = let h = base_low sv log s.1 in omega (arith, length-append (known log) (u ∷ []))
  base_low sv (Checkpoint version k st ∷ log) s = s.0.2
  base_low sv (Dropped k ∷ log) s = base_low sv log s.1
  base_low sv (Transferred values st ∷ log) s = le_refl _

  -- and the offset at most the base
  pub offset_low : (sv : Service V S) (log : List (Rec V S)) → AreRecords sv log → offset log ≤ base log
  offset_low sv [] s = le_refl _
  offset_low sv (Promised b ∷ log) s = offset_low sv log s
  offset_low sv (Accepted b j u ∷ log) s = offset_low sv log s.1
  offset_low sv (Known j u ∷ log) s = offset_low sv log s.1
  offset_low sv (Checkpoint version k st ∷ log) s = s.0.1
  offset_low sv (Dropped k ∷ log) s = le_of_eq s.0.1
  offset_low sv (Transferred values st ∷ log) s = le_refl _

  pub offset_known : (sv : Service V S) (log : List (Rec V S)) → AreRecords sv log → offset log ≤ length (known log)
  offset_known sv log s = le_trans (offset_low sv log s) (base_low sv log s)
