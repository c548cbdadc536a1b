-- What records give is the agreed list, what nodes hold are its values after their offsets, and what is taken over are its first values.
use Rattle.std.proofs.Common.{◌≡◌, ℕ, zero, suc, ◌+◌, ◌-◌, ◌<◌, ◌≤◌, Bool, true, false, cond, ◌⊎◌, List, [], ◌∷◌, ◌++◌, length, Option, Some, None, eqb, ltb, refl, sym, ◌∙◌, ap, subst, inl, inr, arith, le_trans, le_refl, eqb-true, ltb-true, ltb-false, length-append}
use Rattle.std.specs.Prelude.{take, drop, max}
use Rattle.std.proofs.lemmas.Bool.{eqb-false}
use Rattle.std.proofs.lemmas.List.{take-append-drop, take-append-le, take_at, drop-drop, drop-append-le, drop_all, take-take, drop-take}
use Rattle.rex_syntax.specs.declared.service.Declarations.{Declarations}
use Rattle.rex_state.specs.Value.{StateValue}
use Rattle.rex_state.specs.Start.{start_of}
use Rattle.rex_state.specs.Machine.{run}
use Rattle.rex_cluster.specs.Records.{Rec, known, known_above, held, offset, base, given_in, most_in, HasKnown, HasTransferred}
use Rattle.rex_cluster.specs.Records.Rec.{Promised, Accepted, Known, Checkpoint, Dropped, Transferred}
use Rattle.rex_cluster.specs.Quorum.{IsNode, Logs, AllChosen, AllGiven}
use Rattle.rex_cluster.specs.Node.{Service, Message}
use Rattle.rex_cluster.specs.Node.Content.{Snapshot}
use Rattle.rex_cluster.specs.Values.{Value, service_of, trace_of, state_after}
use Rattle.rex_cluster.specs.Lanes.{Here}
use Rattle.rex_cluster.specs.World.{World, node_at, logs}
use Rattle.rex_cluster.specs.Invariant.{IsIn, Begins, AreRecords, IsRightSnapshot, IsJustified}
use Rattle.rex_cluster.specs.Agreed.{known_at, agreed, or_else, given_by, most_given, going_on, given_from, given, base_state}
use Rattle.rex_safety.specs.Laws.{state_at_base, HoldsAgreed, TransfersAreRight}
use Rattle.rex_cluster.proofs.Grow.{begins_trans}
use Rattle.rex_cluster.proofs.Lists.{offset_low, offset_known}
use Rattle.rex_cluster.proofs.Fronts.{prefix_of, base_right}
use Rattle.rex_safety.proofs.Agreeing.{longest_most, one_value, agreed_chosen, agreed_given, known_begins, known_fits}
use Rattle.rex_cluster.proofs.Replies.{trace_both, fits_run, run_split, state_is}
use Rattle.rex_safety.proofs.Worlds.{IsWorld}

module _ {V S : Type 0} where
  -- ---- values that are held

  -- of instances above the offset or a later one
  held_above : (sv : Service V S) (log : List (Rec V S)) → AreRecords sv log → (o : ℕ) → offset log ≤ o → known_above o log ≡ drop o (known log)
  held_above sv [] r o l = sym (drop_all o [] (omega arith))
  held_above sv (Promised b ∷ log) r o l = held_above sv log r o l
  held_above sv (Accepted b i v ∷ log) r o l = held_above sv log r.1 o l
  held_above sv (Known j w ∷ log) r o l = go (ltb o j) refl (held_above sv log r.1 o l)
    where
      go : (t : Bool) → ltb o j ≡ t → known_above o log ≡ drop o (known log) → cond t (known_above o log ++ w ∷ []) (known_above o log) ≡ drop o (known log ++ w ∷ [])
      go true e ih = ap (λ xs. xs ++ w ∷ []) ih ∙ sym (drop-append-le o (known log) (w ∷ []) (omega (arith, ltb-true o j e, r.0)))
      go false e ih =
          let k = ltb-false o j e in
          ih ∙ (drop_all o (known log) (omega (arith, k, r.0)) ∙ sym (drop_all o (known log ++ w ∷ []) (omega (arith, k, r.0, length-append (known log) (w ∷ [])))))
  held_above sv (Checkpoint version k st ∷ log) r o l = held_above sv log r.1 o l
  held_above sv (Dropped k ∷ log) r o l = held_above sv log r.1 o (omega (arith, r.0.0, l))
  held_above sv (Transferred values st ∷ log) r o l =
      held_above sv log r.1 o (omega (arith, l, r.0.0, offset_known sv log r.1)) ∙ (drop_all o (known log) (omega (arith, l, r.0.0)) ∙ sym (drop_all o values l))

  pub held_is : (sv : Service V S) (log : List (Rec V S)) → AreRecords sv log → held log ≡ drop (offset log) (known log)
  held_is sv log r = held_above sv log r (offset log) (le_refl _)

  -- ---- values that are given

  given_has : (i : ℕ) (v : V) (log : List (Rec V S)) → given_in i log ≡ Some v → HasKnown i v log
  given_has i v [] e = absurd (cc)
  given_has i v (Promised c ∷ log) e = given_has i v log e
  given_has i v (Accepted c j w ∷ log) e = given_has i v log e
  given_has i v (Known j w ∷ log) e = go (eqb i j) refl e (λ x. given_has i v log x)
    where
      go : (t : Bool) → eqb i j ≡ t → cond t (Some w) (given_in i log) ≡ Some v → (given_in i log ≡ Some v → HasKnown i v log) → ((i ≡ j) × (v ≡ w)) ⊎ HasKnown i v log
      go true a x ih = inl (eqb-true i j a, cc)
      go false a x ih = inr (ih x)
  given_has i v (Checkpoint version k st ∷ log) e = given_has i v log e
  given_has i v (Dropped k ∷ log) e = given_has i v log e
  given_has i v (Transferred values st ∷ log) e = given_has i v log e

  given_some : (i : ℕ) (v : V) (log : List (Rec V S)) → HasKnown i v log → (u : V) × (given_in i log ≡ Some u)
  given_some i v [] h = absurd h
  given_some i v (Promised c ∷ log) h = given_some i v log h
  given_some i v (Accepted c j w ∷ log) h = given_some i v log h
  given_some i v (Known j w ∷ log) h = go (eqb i j) refl h (λ x. given_some i v log x)
    where
      go : (t : Bool) → eqb i j ≡ t → ((i ≡ j) × (v ≡ w)) ⊎ HasKnown i v log → (HasKnown i v log → (u : V) × (given_in i log ≡ Some u)) → (u : V) × (cond t (Some w) (given_in i log) ≡ Some u)
      go true a x ih = (w, refl)
      go false a (inl x) ih = absurd (eqb-false i j a x.0)
      go false a (inr x) ih = ih x
  given_some i v (Checkpoint version k st ∷ log) h = given_some i v log h
  given_some i v (Dropped k ∷ log) h = given_some i v log h
  given_some i v (Transferred values st ∷ log) h = given_some i v log h

  most_low : (i : ℕ) (v : V) (log : List (Rec V S)) → HasKnown i v log → i ≤ most_in log
  most_low i v [] h = absurd h
  most_low i v (Promised c ∷ log) h = most_low i v log h
  most_low i v (Accepted c j w ∷ log) h = most_low i v log h
  most_low i v (Known j w ∷ log) (inl e) = omega (arith, e.0)
  most_low i v (Known j w ∷ log) (inr h) = let l = most_low i v log h in omega arith
  most_low i v (Checkpoint version k st ∷ log) h = most_low i v log h
  most_low i v (Dropped k ∷ log) h = most_low i v log h
  most_low i v (Transferred values st ∷ log) h = most_low i v log h

  -- ---- what is taken over

  taken_begins : (sv : Service V S) (log : List (Rec V S)) → AreRecords sv log → (values : List V) (s : S) → HasTransferred values s log → Begins values (known log) × (s ≡ sv.state values)
  taken_begins sv [] r values s h = absurd h
  taken_begins sv (Promised c ∷ log) r values s h = taken_begins sv log r values s h
  taken_begins sv (Accepted c j w ∷ log) r values s h = taken_begins sv log r.1 values s h
  taken_begins sv (Known j w ∷ log) r values s h = let t = taken_begins sv log r.1 values s h in (begins_trans values (known log) (known log ++ w ∷ []) t.0 (w ∷ [], refl), t.1)
  taken_begins sv (Checkpoint version k st ∷ log) r values s h = taken_begins sv log r.1 values s h
  taken_begins sv (Dropped k ∷ log) r values s h = taken_begins sv log r.1 values s h
  taken_begins sv (Transferred others st ∷ log) r values s (inl e) = (subst (λ xs. Begins xs others) (sym e.0) ([], append_none others), e.1 ∙ (r.0.2 ∙ ap sv.state (sym e.0)))
    where
      append_none : (xs : List V) → xs ++ [] ≡ xs
      append_none [] = refl
      append_none (x ∷ xs) = ap (λ ys. x ∷ ys) (append_none xs)
  taken_begins sv (Transferred others st ∷ log) r values s (inr h) = let t = taken_begins sv log r.1 values s h in (begins_trans values (known log) others t.0 r.0.1, t.1)

  -- a base without a state is the beginning
  no_base : (log : List (Rec V S)) → base_state log ≡ None → base log ≡ 0
  no_base [] e = refl
  no_base (Promised c ∷ log) e = no_base log e
  no_base (Accepted c j w ∷ log) e = no_base log e
  no_base (Known j w ∷ log) e = no_base log e
  no_base (Checkpoint version k st ∷ log) e = absurd (cc)
  no_base (Dropped k ∷ log) e = no_base log e
  no_base (Transferred values st ∷ log) e = absurd (cc)

-- ---- nodes

-- a value that some node's record gives is given, and one that is given some node's record gives
by_has : (xs : List Here) (i : ℕ) (v : Value) → given_by xs i ≡ Some v → (m : ℕ) × IsNode (length xs) m × HasKnown i v (node_at xs m).log
by_has [] i v e = absurd (cc)
by_has (x ∷ xs) i v e = go (given_in i x.log) refl e (λ f. by_has xs i v f)
  where
    later : (m : ℕ) → IsNode (length xs) m → HasKnown i v (node_at xs m).log → (k : ℕ) × IsNode (suc (length xs)) k × HasKnown i v (node_at (x ∷ xs) k).log
    later m l h = (suc m, (omega arith, omega (arith, l.1)), pick (eqb (suc m) 1) refl)
      where
        pick : (t : Bool) → eqb (suc m) 1 ≡ t → HasKnown i v (cond t x (node_at xs (suc m - 1))).log
        pick true f = let g = eqb-true (suc m) 1 f in absurd (omega (arith, l.0, g))
        pick false f = let g : suc m - 1 ≡ m = omega arith in rw g h

    go : (o : Option Value) → given_in i x.log ≡ o → or_else o (given_by xs i) ≡ Some v → (given_by xs i ≡ Some v → (m : ℕ) × IsNode (length xs) m × HasKnown i v (node_at xs m).log) → (m : ℕ) × IsNode (suc (length xs)) m × HasKnown i v (node_at (x ∷ xs) m).log
    go (Some u) a f ih = (1, (omega arith, omega arith), given_has i v x.log (a ∙ f))
    go None a f ih = let h = ih f in later h.0 h.1 h.2

by_some : (xs : List Here) (m i : ℕ) (v : Value) → IsNode (length xs) m → HasKnown i v (node_at xs m).log → (u : Value) × (given_by xs i ≡ Some u)
by_some [] m i v l h = absurd (omega (arith, l.0, l.1))
by_some (x ∷ xs) m i v l h = go (given_in i x.log) refl (λ k n. by_some xs (m - 1) i v (omega (arith, n), omega (arith, l.1)) k)
  where
    at : (HasKnown i v (node_at xs (m - 1)).log → 1 < m → (u : Value) × (given_by xs i ≡ Some u)) → (t : Bool) → eqb m 1 ≡ t → given_in i x.log ≡ None → HasKnown i v (cond t x (node_at xs (m - 1))).log → (u : Value) × (given_by xs i ≡ Some u)
    at rest true e a k = let g = given_some i v x.log k in absurd (cc (g.1))
    at rest false e a k = rest k (omega (arith, eqb-false m 1 e, l.0))

    go : (o : Option Value) → given_in i x.log ≡ o → (HasKnown i v (node_at xs (m - 1)).log → 1 < m → (u : Value) × (given_by xs i ≡ Some u)) → (u : Value) × (or_else o (given_by xs i) ≡ Some u)
    go (Some u) a rest = (u, refl)
    go None a rest = at rest (eqb m 1) refl a h

most_at : (xs : List Here) (m i : ℕ) (v : Value) → IsNode (length xs) m → HasKnown i v (node_at xs m).log → i ≤ most_given xs
most_at [] m i v l h = absurd (omega (arith, l.0, l.1))
most_at (x ∷ xs) m i v l h = go (eqb m 1) refl h (λ n k. most_at xs (m - 1) i v (omega (arith, n), omega (arith, l.1, n)) k)
  where
    go : (t : Bool) → eqb m 1 ≡ t → HasKnown i v (cond t x (node_at xs (m - 1))).log → (1 < m → HasKnown i v (node_at xs (m - 1)).log → i ≤ most_given xs) → i ≤ max (most_in x.log) (most_given xs)
    go true e k rest = let b = most_low i v x.log k in omega arith
    go false e k rest = let b = rest (omega (arith, eqb-false m 1 e, l.0)) k in omega arith

-- ---- worlds

module _ (service : Declarations) (seed n : ℕ) (w : World) (ok : IsWorld n (service_of service seed) w) where
  abbrev sv : Service Value StateValue
  sv = service_of service seed

  abbrev L : Logs Value StateValue
  L = logs w

  node_here : (m : ℕ) → IsNode n m → IsNode (length w.nodes) m
  node_here m l = subst (λ k. IsNode k m) (sym ok.many) l

  node_there : (m : ℕ) → IsNode (length w.nodes) m → IsNode n m
  node_there m l = subst (λ k. IsNode k m) ok.many l

  -- no record gives a value past the agreed list
  none_past : (i : ℕ) (v : Value) (m : ℕ) → IsNode n m → HasKnown i v (L m) → i ≤ length (agreed w)
  none_past i v m l h = le_trans (ok.cluster.safe.gives m i v l h).1 (longest_most w.nodes m)

  -- given values reach no further than the agreed list, nor than the greatest instance that is given
  reach : (k : ℕ) (vs : List Value) → AllGiven n L k vs → (length vs ≡ 0) ⊎ ((k + length vs ≤ suc (length (agreed w))) × (k + length vs ≤ suc (most_given w.nodes)))
  reach k [] h = inl refl
  reach k (v ∷ vs) h = go (reach (suc k) vs h.1)
    where
      here : (k ≤ length (agreed w)) × (k ≤ most_given w.nodes)
      here = (none_past k v h.0.node h.0.node-in h.0.has, most_at w.nodes h.0.node k v (node_here h.0.node h.0.node-in) h.0.has)

      go : (length vs ≡ 0) ⊎ ((suc k + length vs ≤ suc (length (agreed w))) × (suc k + length vs ≤ suc (most_given w.nodes)))
          → (suc (length vs) ≡ 0) ⊎ ((k + suc (length vs) ≤ suc (length (agreed w))) × (k + suc (length vs) ≤ suc (most_given w.nodes)))
      go (inl e) = inr (omega (arith, e, here.0), omega (arith, e, here.1))
      go (inr e) = inr (omega (arith, e.0), omega (arith, e.1))

  -- values that are given and chosen from an instance on, up to the last that is given
  given_is : (most k : ℕ) (vs : List Value) → AllGiven n L k vs → AllChosen n L k vs → k + length vs ≡ suc (length (agreed w)) → length vs ≤ most → given_from most w.nodes k ≡ vs
  given_is zero k [] g c e l = refl
  given_is zero k (v ∷ vs) g c e l = absurd (omega arith)
  given_is (suc most) k [] g c e l = go (given_by w.nodes k) refl
    where
      go : (o : Option Value) → given_by w.nodes k ≡ o → going_on o (given_from most w.nodes (suc k)) ≡ []
      go None a = refl
      go (Some v) a =
          let h = by_has w.nodes k v a in
          absurd (omega (arith, e, none_past k v h.0 (node_there h.0 h.1) h.2))
  given_is (suc most) k (v ∷ vs) g c e l = go (given_by w.nodes k) refl (by_some w.nodes g.0.node k v (node_here g.0.node g.0.node-in) g.0.has) (given_is most (suc k) vs g.1 c.1 (omega (arith, e)) (omega (arith, l)))
    where
      go : (o : Option Value) → given_by w.nodes k ≡ o → (u : Value) × (given_by w.nodes k ≡ Some u) → given_from most w.nodes (suc k) ≡ vs → going_on o (given_from most w.nodes (suc k)) ≡ v ∷ vs
      go None a s ih = absurd (cc (s.1))
      go (Some u) a s ih =
          let h = by_has w.nodes k u a in
          same (one_value n sv w ok k u v (ok.cluster.safe.gives h.0 k u (node_there h.0 h.1) h.2).0 c.0) ih
        where
          same : {x y : Value} {xs ys : List Value} → x ≡ y → xs ≡ ys → x ∷ xs ≡ y ∷ ys
          same p q = cc

  pub is_given : agreed w ≡ given w
  is_given = sym (given_is (most_given w.nodes) 1 (agreed w) (agreed_given n sv w ok) (agreed_chosen n sv w ok) (omega arith) (most (reach 1 (agreed w) (agreed_given n sv w ok))))
    where
      most : (length (agreed w) ≡ 0) ⊎ ((1 + length (agreed w) ≤ suc (length (agreed w))) × (1 + length (agreed w) ≤ suc (most_given w.nodes))) → length (agreed w) ≤ most_given w.nodes
      most (inl e) = omega (arith, e)
      most (inr e) = omega (arith, e.1)

  -- ---- what nodes hold

  records : (m : ℕ) → IsNode n m → AreRecords sv (L m)
  records m l = ok.cluster.safe.sorted m l

  -- a node's known values by the agreed list and what it holds
  known_parts : (m : ℕ) → IsNode n m → known_at w m ≡ take (offset (L m)) (agreed w) ++ held (L m)
  known_parts m l =
      sym (take-append-drop (offset (L m)) (known_at w m))
      ∙ ap (λ xs. xs ++ drop (offset (L m)) (known_at w m)) front
      ∙ ap (λ xs. take (offset (L m)) (agreed w) ++ xs) (sym (held_is sv (L m) (records m l)))
    where
      front : take (offset (L m)) (known_at w m) ≡ take (offset (L m)) (agreed w)
      front =
          let b = known_begins n sv w ok m l in
          sym (take-append-le (offset (L m)) (known_at w m) b.0 (offset_known sv (L m) (records m l))) ∙ ap (take (offset (L m))) b.1

  held_parts : (m : ℕ) → IsNode n m → held (L m) ≡ take (length (held (L m))) (drop (offset (L m)) (agreed w))
  held_parts m l =
      let b = known_begins n sv w ok m l in
      let parts : drop (offset (L m)) (agreed w) ≡ held (L m) ++ b.0 =
      ap (drop (offset (L m))) (sym b.1)
      ∙ (drop-append-le (offset (L m)) (known_at w m) b.0 (offset_known sv (L m) (records m l)) ∙ ap (λ xs. xs ++ b.0) (sym (held_is sv (L m) (records m l)))) in
      sym (take_at (held (L m)) b.0 (length (held (L m))) refl) ∙ ap (take (length (held (L m)))) (sym parts)

  -- the state at the base
  base_is : (m : ℕ) → IsNode n m → state_at_base service (base_state (L m)) ≡ state_after service (trace_of (take (base (L m)) (known_at w m)))
  base_is m l = go (base_state (L m)) refl
    where
      nothing : (vs : List Value) → take 0 vs ≡ []
      nothing [] = refl
      nothing (v ∷ vs) = refl

      go : (o : Option StateValue) → base_state (L m) ≡ o → state_at_base service o ≡ state_after service (trace_of (take (base (L m)) (known_at w m)))
      go None e = ap (λ vs. state_after service (trace_of vs)) (sym (ap (λ k. take k (known_at w m)) (no_base (L m) e) ∙ nothing (known_at w m)))
      go (Some s) e = (base_right sv (L m) (records m l) s e).1

  -- a front of a list, up to a place and from there on
  two_parts : (b k : ℕ) (vs : List Value) → b ≤ k → k ≤ length vs → take b vs ++ take (k - b) (drop b vs) ≡ take k vs
  two_parts b k vs l g =
      ap (λ xs. xs ++ take (k - b) (drop b vs)) (sym (take-take b k vs l))
      ∙ (ap (λ xs. take b (take k vs) ++ xs) (sym rest) ∙ take-append-drop b (take k vs))
    where
      rest : drop b (take k vs) ≡ take (k - b) (drop b vs)
      rest = let e : k ≡ b + (k - b) = omega (arith, l) in ap (λ j. drop b (take j vs)) e ∙ drop-take b (k - b) vs

  leads_on : (m k : ℕ) → IsNode n m → base (L m) ≤ k → k ≤ length (known_at w m)
      → run service (state_at_base service (base_state (L m))) (trace_of (take (k - base (L m)) (drop (base (L m) - offset (L m)) (held (L m))))) ≡ Some (state_after service (trace_of (take k (agreed w))))
  leads_on m k l low high =
      let vs = known_at w m in
      let front = take (base (L m)) vs in
      let rest = take (k - base (L m)) (drop (base (L m)) vs) in
      let all = fits_run service (take k vs) (known_fits n sv w ok refl m l k) in
      let parts : run service (start_of service) (trace_of front ++ trace_of rest) ≡ Some all.0 =
      ap (run service (start_of service)) (sym (trace_both front rest) ∙ ap trace_of (two_parts (base (L m)) k vs low high)) ∙ all.1 in
      let mid = run_split service (start_of service) all.0 (trace_of front) (trace_of rest) parts in
      let from : state_at_base service (base_state (L m)) ≡ mid.0 = base_is m l ∙ state_is service (trace_of front) mid.0 mid.1 in
      ap (λ s. run service s (trace_of (take (k - base (L m)) (drop (base (L m) - offset (L m)) (held (L m)))))) from
      ∙ (ap (λ xs. run service mid.0 (trace_of (take (k - base (L m)) xs))) tail ∙ (mid.2 ∙ ap Some (sym (state_is service (trace_of (take k vs)) all.0 all.1) ∙ ap (λ xs. state_after service (trace_of xs)) same)))
    where
      tail : drop (base (L m) - offset (L m)) (held (L m)) ≡ drop (base (L m)) (known_at w m)
      tail =
          ap (drop (base (L m) - offset (L m))) (held_is sv (L m) (records m l))
          ∙ (drop-drop (base (L m) - offset (L m)) (offset (L m)) (known_at w m)
          ∙ ap (λ j. drop j (known_at w m)) (omega (arith, offset_low sv (L m) (records m l))))

      same : take k (known_at w m) ≡ take k (agreed w)
      same = let b = known_begins n sv w ok m l in sym (take-append-le k (known_at w m) b.0 high) ∙ ap (take k) b.1

  pub holds_agreed : HoldsAgreed service n w
  holds_agreed = record { is_known = known_parts; is_held = held_parts; low = λ m l. offset_low sv (L m) (records m l); leads = leads_on }

  -- ---- what is taken over

  pub transfers_right : TransfersAreRight service n w
  transfers_right = record { told = told; taken = taken }
    where
      told : (x : Message Value) (values : List Value) → IsIn x w.messages → x.content ≡ Snapshot values → Begins values (agreed w)
      told x values i e =
          let j : IsRightSnapshot n L values = subst (IsJustified n L x.from) e (ok.cluster.messages x i) in
          prefix_of n sv L ok.cluster.safe 1 values (agreed w) j.chosen (agreed_chosen n sv w ok) (few j (reach 1 values j.given))
        where
          few : IsRightSnapshot n L values → (length values ≡ 0) ⊎ ((1 + length values ≤ suc (length (agreed w))) × (1 + length values ≤ suc (most_given w.nodes))) → length values ≤ length (agreed w)
          few j (inl a) = omega (arith, a)
          few j (inr a) = omega (arith, a.0)

      taken : (m : ℕ) (values : List Value) (s : StateValue) → IsNode n m → HasTransferred values s (L m) → Begins values (agreed w) × (s ≡ state_after service (trace_of values))
      taken m values s l h =
          let t = taken_begins sv (L m) (records m l) values s h in
          (begins_trans values (known_at w m) (agreed w) t.0 (known_begins n sv w ok m l), t.1)
