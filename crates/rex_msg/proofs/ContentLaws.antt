-- What a message says: what is read is spelled so.
use Rattle.std.proofs.Common.{◌≡◌, ℕ, ◌<◌, ◌≤◌, ◌^◌, Bool, true, cond, length, Ok, Err, refl, sym, subst, arith}
use Rattle.std.specs.Prelude.{◌==◌, nat_lt}
use Rattle.std.specs.Int.{w16, w64, to_be_bytes}
use Rattle.std.specs.List.{flat_map}
use Rattle.std.proofs.lemmas.Bool.{ltb-true, eqb-true, eqb-false}
use Rattle.rex_ballot.specs.Ballot.{is_ballot, is_instance}
use Rattle.rex_ballot.proofs.Numbers.{is_ballot-true, is_instance-true}
use Rattle.rex_wire.specs.Reading.{Left, Reading, allowed_at}
use Rattle.rex_wire.proofs.Fields.{test_ok, is_taken, Takes, Takes-then, IsSpelled, IsSpelled-either, step}
use Rattle.rex_wire.proofs.Numbers.{wide16, wide32, wide64, number_spelled, allowed_spelled}
use Rattle.rex_wire.proofs.Ranges.{is_between-true}
use Rattle.rex_wire.proofs.Values.{value_spelled}
use Rattle.rex_msg.specs.declared.message.Content.{Content}
use Rattle.rex_msg.specs.declared.message.Content.TheVariants.{Prepare, Promise, Accept, Accepted, Chosen, Nack, Ask, Snapshot}
use Rattle.rex_msg.specs.Spelling.{kind_of, content_bytes, proposal_bytes, ContentFits, IsTyped}
use Rattle.rex_msg.specs.Reading.{is_first, prepare_at, promise_at, accept_at, accepted_at, chosen_at, nack_at, ask_at, snapshot_at, content_at}
use Rattle.rex_msg.proofs.Proposals.{proposals_spelled, reported_from_each}

-- a content that was read after the number of its kind
pub record IsContent (kind : ℕ) (content : Content) : Type 0 where
  pub fits : ContentFits content
  pub typed : IsTyped content
  pub kind_is : kind_of content ≡ kind

prepare_spelled : IsSpelled prepare_at content_bytes (IsContent 1)
unfolding prepare_at
prepare_spelled = record {
  takes = λ l x bytes e.
      let ballot = step (allowed_spelled wide64 is_ballot) l _ x bytes e in
      let first = step (allowed_spelled wide32 is_first) ballot.left _ x ballot.takes.bytes ballot.next in
      let t = Takes-then l ballot.left first.left _ _ ballot.takes first.takes in
      let content = Prepare ballot.value first.value in
      let is : IsContent 1 content = record { fits = (is_ballot-true ballot.value ballot.may, is_between-true 1 65536 first.value first.may); typed = tt; kind_is = refl } in
      is_taken content_bytes (IsContent 1) l (content, first.left) x first.next (t, is);
}

promise_spelled : IsSpelled promise_at content_bytes (IsContent 2)
unfolding promise_at
promise_spelled = record {
  takes = λ l x bytes e.
      let ballot = step (allowed_spelled wide64 is_ballot) l _ x bytes e in
      let count = step (number_spelled wide16) ballot.left _ x ballot.takes.bytes ballot.next in
      let accepted = step (proposals_spelled count.value) count.left _ x count.takes.bytes count.next in
      let number : Takes ballot.left (to_be_bytes w16 (length accepted.value)) count.left = subst (λ (n : ℕ). Takes ballot.left (to_be_bytes w16 n) count.left) (sym accepted.may.1) count.takes in
      let t = Takes-then l ballot.left accepted.left _ _ ballot.takes (Takes-then ballot.left count.left accepted.left _ (flat_map proposal_bytes accepted.value) number accepted.takes) in
      let content = Promise ballot.value accepted.value in
      let is : IsContent 2 content = record { fits = (is_ballot-true ballot.value ballot.may, reported_from_each accepted.value accepted.may.0); typed = tt; kind_is = refl } in
      is_taken content_bytes (IsContent 2) l (content, accepted.left) x accepted.next (t, is);
}

accept_spelled : IsSpelled accept_at content_bytes (IsContent 3)
unfolding accept_at
accept_spelled = record {
  takes = λ l x bytes e.
      let ballot = step (allowed_spelled wide64 is_ballot) l _ x bytes e in
      let instance = step (allowed_spelled wide32 is_instance) ballot.left _ x ballot.takes.bytes ballot.next in
      let value = step value_spelled instance.left _ x instance.takes.bytes instance.next in
      let t = Takes-then l ballot.left value.left _ _ ballot.takes (Takes-then ballot.left instance.left value.left _ _ instance.takes value.takes) in
      let content = Accept ballot.value instance.value value.value in
      let is : IsContent 3 content = record { fits = (is_ballot-true ballot.value ballot.may, is_instance-true instance.value instance.may, record { few = value.may.few }); typed = tt; kind_is = refl } in
      is_taken content_bytes (IsContent 3) l (content, value.left) x value.next (t, is);
}

accepted_spelled : IsSpelled accepted_at content_bytes (IsContent 4)
unfolding accepted_at
accepted_spelled = record {
  takes = λ l x bytes e.
      let ballot = step (allowed_spelled wide64 is_ballot) l _ x bytes e in
      let instance = step (allowed_spelled wide32 is_instance) ballot.left _ x ballot.takes.bytes ballot.next in
      let t = Takes-then l ballot.left instance.left _ _ ballot.takes instance.takes in
      let content = Accepted ballot.value instance.value in
      let is : IsContent 4 content = record { fits = (is_ballot-true ballot.value ballot.may, is_instance-true instance.value instance.may); typed = tt; kind_is = refl } in
      is_taken content_bytes (IsContent 4) l (content, instance.left) x instance.next (t, is);
}

chosen_spelled : IsSpelled chosen_at content_bytes (IsContent 5)
unfolding chosen_at
chosen_spelled = record {
  takes = λ l x bytes e.
      let instance = step (allowed_spelled wide32 is_instance) l _ x bytes e in
      let value = step value_spelled instance.left _ x instance.takes.bytes instance.next in
      let t = Takes-then l instance.left value.left _ _ instance.takes value.takes in
      let content = Chosen instance.value value.value in
      let is : IsContent 5 content = record { fits = (is_instance-true instance.value instance.may, record { few = value.may.few }); typed = tt; kind_is = refl } in
      is_taken content_bytes (IsContent 5) l (content, value.left) x value.next (t, is);
}

-- an allowed number is also one of its type
typed_spelled : (may : ℕ → Bool) → IsSpelled (allowed_at w64 may) (to_be_bytes w64) (λ n. (may n ≡ true) × (n < 2 ^ 64))
typed_spelled may = record {
  takes = λ l x bytes e.
      let s = step (number_spelled wide64) l (λ n. cond (may n.0) (Ok n) (Err l.at)) x bytes e in
      let g = test_ok (may s.value) l.at (s.value, s.left) x s.next in
      subst (λ (y : ℕ × Left). Takes l (to_be_bytes w64 y.0) y.1 × ((may y.0 ≡ true) × (y.0 < 2 ^ 64))) g.1 (s.takes, (g.0, s.may));
}

nack_spelled : IsSpelled nack_at content_bytes (IsContent 6)
unfolding nack_at
nack_spelled = record {
  takes = λ l x bytes e.
      let ballot = step (allowed_spelled wide64 is_ballot) l _ x bytes e in
      let promised = step (typed_spelled (nat_lt ballot.value)) ballot.left _ x ballot.takes.bytes ballot.next in
      let t = Takes-then l ballot.left promised.left _ _ ballot.takes promised.takes in
      let content = Nack ballot.value promised.value in
      let is : IsContent 6 content = record { fits = (is_ballot-true ballot.value ballot.may, ltb-true _ _ promised.may.0); typed = promised.may.1; kind_is = refl } in
      is_taken content_bytes (IsContent 6) l (content, promised.left) x promised.next (t, is);
}

ask_spelled : IsSpelled ask_at content_bytes (IsContent 7)
unfolding ask_at
ask_spelled = record {
  takes = λ l x bytes e.
      let first = step (allowed_spelled wide32 is_first) l _ x bytes e in
      let is : IsContent 7 (Ask first.value) = record { fits = is_between-true 1 65536 first.value first.may; typed = tt; kind_is = refl } in
      is_taken content_bytes (IsContent 7) l (Ask first.value, first.left) x first.next (first.takes, is);
}

snapshot_spelled : IsSpelled snapshot_at content_bytes (IsContent 8)
unfolding snapshot_at
snapshot_spelled = record {
  takes = λ l x bytes e.
      let deltas = step (allowed_spelled wide32 is_instance) l _ x bytes e in
      let snapshot = step value_spelled deltas.left _ x deltas.takes.bytes deltas.next in
      let t = Takes-then l deltas.left snapshot.left _ _ deltas.takes snapshot.takes in
      let content = Snapshot deltas.value snapshot.value in
      let is : IsContent 8 content = record { fits = (is_instance-true deltas.value deltas.may, record { few = snapshot.may.few }); typed = tt; kind_is = refl } in
      is_taken content_bytes (IsContent 8) l (content, snapshot.left) x snapshot.next (t, is);
}

at_kind : (kind n : ℕ) {read : Left → Reading Content} → IsSpelled read content_bytes (IsContent n) → (kind == n) ≡ true → IsSpelled read content_bytes (IsContent kind)
at_kind kind n {read} h e = subst (λ (k : ℕ). IsSpelled read content_bytes (IsContent k)) (sym (eqb-true kind n e)) h

pub content_spelled : (kind : ℕ) → 1 ≤ kind → kind ≤ 8 → IsSpelled (content_at kind) content_bytes (IsContent kind)
content_spelled kind least greatest =
    let may = IsContent kind in
    IsSpelled-either (kind == 1) prepare_at _ content_bytes may (at_kind kind 1 prepare_spelled) (λ n1.
    IsSpelled-either (kind == 2) promise_at _ content_bytes may (at_kind kind 2 promise_spelled) (λ n2.
    IsSpelled-either (kind == 3) accept_at _ content_bytes may (at_kind kind 3 accept_spelled) (λ n3.
    IsSpelled-either (kind == 4) accepted_at _ content_bytes may (at_kind kind 4 accepted_spelled) (λ n4.
    IsSpelled-either (kind == 5) chosen_at _ content_bytes may (at_kind kind 5 chosen_spelled) (λ n5.
    IsSpelled-either (kind == 6) nack_at _ content_bytes may (at_kind kind 6 nack_spelled) (λ n6.
    IsSpelled-either (kind == 7) ask_at _ content_bytes may (at_kind kind 7 ask_spelled) (λ n7.
    let last : kind ≡ 8 = omega (arith, eqb-false kind 1 n1, eqb-false kind 2 n2, eqb-false kind 3 n3, eqb-false kind 4 n4, eqb-false kind 5 n5, eqb-false kind 6 n6, eqb-false kind 7 n7) in
    subst (λ (k : ℕ). IsSpelled snapshot_at content_bytes (IsContent k)) (sym last) snapshot_spelled)))))))
