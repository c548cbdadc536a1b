-- Each value that may be known next fits, and none is too long.
use Rattle.std.proofs.Common.{◌≡◌, ℕ, suc, true, List, [], ◌∷◌, ◌++◌, length, Some, refl, ap, subst, arith}
use Rattle.std.specs.Prelude.{take}
use Rattle.rex_syntax.specs.declared.service.Declarations.{Declarations}
use Rattle.rex_state.specs.Value.{StateValue}
use Rattle.std.proofs.Common.{leb-true, ◌≤◌, inl, inr, sym}
use Rattle.std.specs.Prelude.{nat_le}
use Rattle.std.specs.List.{list_all}
use Rattle.std.proofs.lemmas.Bool.{and_parts}
use Rattle.rex_delta.specs.Reading.{delta_in}
use Rattle.rex_cluster.specs.Records.{Proposal, HasAccepted}
use Rattle.rex_cluster.specs.Quorum.{IsNode, node_of}
use Rattle.rex_cluster.specs.Node.{Service, Content, Message, Lead}
use Rattle.rex_cluster.specs.Node.Role.{Leads}
use Rattle.rex_cluster.specs.Values.{Value, service_of}
use Rattle.rex_cluster.specs.World.{World, node_at, logs}
use Rattle.rex_cluster.specs.Invariant.{IsIn, LeadsRightly, IsRightRole, IsJustified}
use Rattle.rex_cluster.specs.Node.{Content}
use Rattle.rex_cluster.specs.Node.Content.{Promise, Accept, Chosen as Chose}
use Rattle.rex_cluster.specs.Values.{is_piece, may_be_value, is_byte, spells, runs, trace_of, values_fit}
use Rattle.rex_cluster.specs.Agreed.{known_at}
use Rattle.rex_cluster.specs.Invariant.{Open, IsRightOpen}
use Rattle.rex_safety.specs.Laws.{NextFits, ValuesAreShort, ValuesAreBytes}
use Rattle.rex_cluster.proofs.Agree.{owned}
use Rattle.rex_cluster.proofs.Bytes.{spelled_bytes}
use Rattle.rex_cluster.proofs.Settle.{by_chosen, all_chosen_same}
use Rattle.rex_cluster.proofs.Fronts.{fits_front}
use Rattle.rex_safety.proofs.Worlds.{IsWorld}

module _ (service : Declarations) (seed n : ℕ) (w : World) (ok : IsWorld n (service_of service seed) w) where
  abbrev sv : Service Value StateValue
  sv = service_of service seed

  accepted_fits : (q m b : ℕ) (v : Value) → IsNode n q → IsNode n m → HasAccepted b (suc (length (known_at w m))) v (logs w q) → values_fit service (known_at w m ++ v ∷ []) ≡ true
  accepted_fits q m b v qin min h =
      let o = ok.cluster.safe.own q b (suc (length (known_at w m))) v qin h in
      let p = ok.cluster.safe.prior b (suc (length (known_at w m))) v o.0 o.1 in
      let e : p.values ≡ known_at w m = all_chosen_same n sv (logs w) ok.cluster.safe 1 p.values (known_at w m) (by_chosen n (logs w) b 1 p.values p.chosen) (ok.cluster.safe.knows m min) (omega (arith, p.place)) in
      subst (λ vs. values_fit service (vs ++ v ∷ []) ≡ true) e p.fits

  known_fits : (m : ℕ) → IsNode n m → values_fit service (known_at w m) ≡ true
  known_fits m min = subst (λ vs. values_fit service vs ≡ true) (whole (known_at w m)) (fits_front n sv (logs w) ok.cluster.safe (known_at w m) (ok.cluster.safe.knows m min) refl (length (known_at w m)))
    where
      whole : (vs : List Value) → take (length vs) vs ≡ vs
      whole [] = refl
      whole (v ∷ vs) = ap (λ xs. v ∷ xs) (whole vs)

  lead_ok : (m : ℕ) → IsNode n m → (l : Lead Value) → (node_at w.nodes m).role ≡ Leads l → LeadsRightly n (logs w) (logs w m) m l
  lead_ok m min l e = subst (λ r. IsRightRole n (logs w) (logs w m) m r) e (ok.cluster.roles m min)

  proposal_fits : (q m : ℕ) (p : Proposal Value) → IsNode n q → IsNode n m → HasAccepted p.ballot p.instance p.value (logs w q) → p.instance ≡ suc (length (known_at w m)) → values_fit service (known_at w m ++ p.value ∷ []) ≡ true
  proposal_fits q m p qin min h e = accepted_fits q m p.ballot p.value qin min (subst (λ i. HasAccepted p.ballot i p.value (logs w q)) e h)

  open_fits : (m : ℕ) (l : Lead Value) (p : Proposal Value) → IsNode n m → (node_at w.nodes m).role ≡ Leads l → l.proposal ≡ Some p → (p.instance ≡ suc (length (known_at w m))) × (values_fit service (known_at w m ++ p.value ∷ []) ≡ true)
  open_fits m l p min e f =
      let op : Open n (logs w) (logs w m) l.ballot l.accepted_by p = subst (IsRightOpen n (logs w) (logs w m) l.ballot l.accepted_by) f (lead_ok m min l e).pending in
      (op.next, accepted_fits m m l.ballot p.value min min (subst (λ i. HasAccepted l.ballot i p.value (logs w m)) op.next op.own))

  says : (x : Message Value) → IsIn x w.messages → (c : Content Value) → x.content ≡ c → IsJustified n (logs w) x.from c
  says x h c e = subst (IsJustified n (logs w) x.from) e (ok.cluster.messages x h)

  pub next_fits : NextFits service n w
  next_fits = record {
    known = known_fits;
    accepted = accepted_fits;
    reported = λ m l p min e i f. let s = (lead_ok m min l e).said p i in proposal_fits s.node m p s.node-in min s.has f;
    open_one = open_fits;
    promised = λ m b x ps p min h e i f. let j = says x h (Promise b ps) e in proposal_fits x.from m p j.from-in min (j.real p i).0 f;
    chosen = λ m x v min h e.
        let j = says x h (Chose (suc (length (known_at w m))) v) e in
        let o = owned n sv (logs w) ok.cluster.safe j.ballot (suc (length (known_at w m))) v j.quorum in
        accepted_fits (node_of j.ballot) m j.ballot v o.0 min o.1;
  }

  -- ---- each value spells a delta

  last_spelled : (vs : List Value) (v : Value) → list_all (spells service) (vs ++ v ∷ []) ≡ true → spells service v ≡ true
  last_spelled [] v h = (and_parts _ _ h).0
  last_spelled (x ∷ xs) v h = last_spelled xs v (and_parts _ _ h).1

  one_spelled : (v : Value) (vs : List Value) → IsIn v vs → list_all (spells service) vs ≡ true → spells service v ≡ true
  one_spelled v [] i h = absurd i
  one_spelled v (x ∷ xs) (inl e) h = subst (λ y. spells service y ≡ true) (sym e) (and_parts _ _ h).0
  one_spelled v (x ∷ xs) (inr i) h = one_spelled v xs i (and_parts _ _ h).1

  accepted_spelled : (m b i : ℕ) (v : Value) → IsNode n m → HasAccepted b i v (logs w m) → spells service v ≡ true
  accepted_spelled m b i v min h =
      let o = ok.cluster.safe.own m b i v min h in
      let p = ok.cluster.safe.prior b i v o.0 o.1 in
      last_spelled p.values v (and_parts (list_all (spells service) (p.values ++ v ∷ [])) (runs service (trace_of (p.values ++ v ∷ []))) p.fits).0

  known_spelled : (m : ℕ) (v : Value) → IsNode n m → IsIn v (known_at w m) → spells service v ≡ true
  known_spelled m v min i = one_spelled v (known_at w m) i (and_parts (list_all (spells service) (known_at w m)) (runs service (trace_of (known_at w m))) (known_fits m min)).0

  reported_spelled : (m : ℕ) (l : Lead Value) (p : Proposal Value) → IsNode n m → (node_at w.nodes m).role ≡ Leads l → IsIn p l.reported → spells service p.value ≡ true
  reported_spelled m l p min e i = let s = (lead_ok m min l e).said p i in accepted_spelled s.node p.ballot p.instance p.value s.node-in s.has

  open_spelled : (m : ℕ) (l : Lead Value) (p : Proposal Value) → IsNode n m → (node_at w.nodes m).role ≡ Leads l → l.proposal ≡ Some p → spells service p.value ≡ true
  open_spelled m l p min e f =
      let op : Open n (logs w) (logs w m) l.ballot l.accepted_by p = subst (IsRightOpen n (logs w) (logs w m) l.ballot l.accepted_by) f (lead_ok m min l e).pending in
      accepted_spelled m l.ballot p.instance p.value min op.own

  promised_spelled : (x : Message Value) (b : ℕ) (ps : List (Proposal Value)) (p : Proposal Value) → IsIn x w.messages → x.content ≡ Promise b ps → IsIn p ps → spells service p.value ≡ true
  promised_spelled x b ps p h e i = let j = says x h (Promise b ps) e in accepted_spelled x.from p.ballot p.instance p.value j.from-in (j.real p i).0

  asked_spelled : (x : Message Value) (b i : ℕ) (v : Value) → IsIn x w.messages → x.content ≡ Accept b i v → spells service v ≡ true
  asked_spelled x b i v h e = let j = says x h (Accept b i v) e in accepted_spelled (node_of b) b i v j.0 j.1

  told_spelled : (x : Message Value) (i : ℕ) (v : Value) → IsIn x w.messages → x.content ≡ Chose i v → spells service v ≡ true
  told_spelled x i v h e =
      let j = says x h (Chose i v) e in
      let o = owned n sv (logs w) ok.cluster.safe j.ballot i v j.quorum in
      accepted_spelled (node_of j.ballot) j.ballot i v o.0 o.1

  -- so it is short, and is bytes

  short_of : (v : Value) → spells service v ≡ true → length v ≤ 4194304
  short_of v h = leb-true (length v) 4194304 (and_parts (nat_le (length v) 4194304) (list_all is_byte v) (and_parts (may_be_value v) (is_piece service (delta_in v)) h).0).0

  pub values_short : ValuesAreShort service n w
  values_short = record {
    accepted = λ m b i v min h. short_of v (accepted_spelled m b i v min h);
    known = λ m v min i. short_of v (known_spelled m v min i);
    promised = λ x b ps p h e i. short_of p.value (promised_spelled x b ps p h e i);
    asked = λ x b i v h e. short_of v (asked_spelled x b i v h e);
    told = λ x i v h e. short_of v (told_spelled x i v h e);
  }

  pub values_bytes : ValuesAreBytes service n w
  values_bytes = record {
    accepted = λ m b i v min h. spelled_bytes service v (accepted_spelled m b i v min h);
    known = λ m v min i. spelled_bytes service v (known_spelled m v min i);
    reported = λ m l p min e i. spelled_bytes service p.value (reported_spelled m l p min e i);
    open_one = λ m l p min e f. spelled_bytes service p.value (open_spelled m l p min e f);
    promised = λ x b ps p h e i. spelled_bytes service p.value (promised_spelled x b ps p h e i);
    asked = λ x b i v h e. spelled_bytes service v (asked_spelled x b i v h e);
    told = λ x i v h e. spelled_bytes service v (told_spelled x i v h e);
  }
