-- Records: what is read is spelled so.
use Rattle.std.proofs.Common.{◌≡◌, ℕ, ◌+◌, ◌≤◌, true, List, Err, refl, sym, subst, arith}
use Rattle.std.specs.Prelude.{◌==◌, ◌&&◌, max, nat_lt}
use Rattle.std.proofs.lemmas.Bool.{eqb-true}
use Rattle.rex_ballot.specs.Ballot.{IsBallot, IsInstance, is_ballot, is_instance}
use Rattle.rex_ballot.specs.Proposals.{IsValue}
use Rattle.rex_ballot.proofs.Numbers.{is_ballot-true, is_instance-true}
use Rattle.rex_wire.specs.Reading.{Left, Reading}
use Rattle.rex_wire.specs.Spelling.{byte}
use Rattle.rex_wire.specs.Ranges.{is_between}
use Rattle.rex_wire.proofs.Fields.{is_taken, Takes, Takes-then, IsSpelled, IsSpelled-either, step}
use Rattle.rex_wire.proofs.Numbers.{wide8, wide32, wide64, number_spelled, allowed_spelled}
use Rattle.rex_wire.proofs.Ranges.{is_between-true}
use Rattle.rex_wire.proofs.Values.{value_spelled}
use Rattle.rex_durable.specs.declared.records.Rec.{Rec}
use Rattle.rex_durable.specs.declared.records.Rec.TheVariants.{Promised, Accepted, Known, Checkpoint, Dropped, Transferred}
use Rattle.rex_durable.specs.declared.records.Standing.{Standing}
use Rattle.rex_durable.specs.Spelling.{code_of, content, record_bytes, HasSpelling, IsDue}
use Rattle.rex_durable.specs.Reading.{promised_at, accepted_at, known_at, checkpoint_at, dropped_at, transferred_at, content_at, record_at}
use Rattle.rex_durable.proofs.Allowed.{next-true, base-true, above-true}

-- a record of this kind, which may stand there
pub record IsKind (place : Standing) (code : ℕ) (r : Rec) : Type 0 where
  pub spelling : HasSpelling r
  pub due : IsDue place r
  pub code_is : code_of r ≡ code

promised_spelled : (place : Standing) → IsSpelled promised_at content (IsKind place 1)
unfolding promised_at
promised_spelled place = record {
  takes = λ l x bytes e.
      let ballot = step (allowed_spelled wide64 is_ballot) l _ x bytes e in
      let is : IsKind place 1 (Promised ballot.value) = record { spelling = record { in_range = is_ballot-true ballot.value ballot.may }; due = tt; code_is = refl } in
      is_taken content (IsKind place 1) l (Promised ballot.value, ballot.left) x ballot.next (ballot.takes, is);
}

accepted_kind : (place : Standing) (b i : ℕ) (v : List ℕ) → IsBallot b → IsInstance i → IsValue v → IsKind place 2 (Accepted b i v)
accepted_kind place b i v hb hi hv = record { spelling = record { in_range = (hb, hi, hv) }; due = tt; code_is = refl }

accepted_spelled : (place : Standing) → IsSpelled accepted_at content (IsKind place 2)
unfolding accepted_at
accepted_spelled place = record {
  takes = λ l x bytes e.
      let ballot = step (allowed_spelled wide64 is_ballot) l _ x bytes e in
      let instance = step (allowed_spelled wide32 is_instance) ballot.left _ x ballot.takes.bytes ballot.next in
      let value = step value_spelled instance.left _ x instance.takes.bytes instance.next in
      let t2 = Takes-then l ballot.left instance.left _ _ ballot.takes instance.takes in
      let t = Takes-then l instance.left value.left _ _ t2 value.takes in
      let r = Accepted ballot.value instance.value value.value in
      let is = accepted_kind place ballot.value instance.value value.value (is_ballot-true ballot.value ballot.may) (is_instance-true instance.value instance.may) (record { few = value.may.few }) in
      is_taken content (IsKind place 2) l (r, value.left) x value.next (t, is);
}

known_spelled : (place : Standing) → IsSpelled (known_at place) content (IsKind place 3)
unfolding known_at
known_spelled place = record {
  takes = λ l x bytes e.
      let instance = step (allowed_spelled wide32 (λ n. is_instance n && n == place.count + 1)) l _ x bytes e in
      let value = step value_spelled instance.left _ x instance.takes.bytes instance.next in
      let t = Takes-then l instance.left value.left _ _ instance.takes value.takes in
      let next = next-true place.count instance.value instance.may in
      let r = Known instance.value value.value in
      let is : IsKind place 3 r = record { spelling = record { in_range = (next.instance, record { few = value.may.few }) }; due = next.next; code_is = refl } in
      is_taken content (IsKind place 3) l (r, value.left) x value.next (t, is);
}

checkpoint_spelled : (place : Standing) → place.count ≤ 65535 → IsSpelled (checkpoint_at place) content (IsKind place 4)
unfolding checkpoint_at
checkpoint_spelled place few = record {
  takes = λ l x bytes e.
      let deltas = step (allowed_spelled wide32 (is_between (max 1 place.offset) place.count)) l _ x bytes e in
      let snapshot = step value_spelled deltas.left _ x deltas.takes.bytes deltas.next in
      let t = Takes-then l deltas.left snapshot.left _ _ deltas.takes snapshot.takes in
      let to = is_between-true (max 1 place.offset) place.count deltas.value deltas.may in
      let first = to.0 in
      let last = to.1 in
      let range : IsInstance deltas.value = record { first = omega arith; last = omega arith } in
      let due : IsDue place (Checkpoint deltas.value snapshot.value) = (omega arith, last) in
      let r = Checkpoint deltas.value snapshot.value in
      let is : IsKind place 4 r = record { spelling = record { in_range = (range, record { few = snapshot.may.few }) }; due = due; code_is = refl } in
      is_taken content (IsKind place 4) l (r, snapshot.left) x snapshot.next (t, is);
}

dropped_spelled : (place : Standing) → IsSpelled (dropped_at place) content (IsKind place 5)
unfolding dropped_at
dropped_spelled place = record {
  takes = λ l x bytes e.
      let deltas = step (allowed_spelled wide32 (λ n. is_instance n && (nat_lt place.offset n && n == place.base))) l _ x bytes e in
      let at = base-true place.offset place.base deltas.value deltas.may in
      let r = Dropped deltas.value in
      let is : IsKind place 5 r = record { spelling = record { in_range = at.instance }; due = (at.above, at.is); code_is = refl } in
      is_taken content (IsKind place 5) l (r, deltas.left) x deltas.next (deltas.takes, is);
}

transferred_spelled : (place : Standing) → IsSpelled (transferred_at place) content (IsKind place 6)
unfolding transferred_at
transferred_spelled place = record {
  takes = λ l x bytes e.
      let deltas = step (allowed_spelled wide32 (λ n. is_instance n && nat_lt place.count n)) l _ x bytes e in
      let snapshot = step value_spelled deltas.left _ x deltas.takes.bytes deltas.next in
      let t = Takes-then l deltas.left snapshot.left _ _ deltas.takes snapshot.takes in
      let above = above-true place.count deltas.value deltas.may in
      let r = Transferred deltas.value snapshot.value in
      let is : IsKind place 6 r = record { spelling = record { in_range = (above.0, record { few = snapshot.may.few }) }; due = above.1; code_is = refl } in
      is_taken content (IsKind place 6) l (r, snapshot.left) x snapshot.next (t, is);
}

at_code : (place : Standing) (code n : ℕ) {read : Left → Reading Rec} → IsSpelled read content (IsKind place n) → (code == n) ≡ true → IsSpelled read content (IsKind place code)
at_code place code n {read} h e = subst (λ (k : ℕ). IsSpelled read content (IsKind place k)) (sym (eqb-true code n e)) h

refused_spelled : (place : Standing) (code at : ℕ) → IsSpelled (λ l. Err at) content (IsKind place code)
refused_spelled place code at = record { takes = λ l x bytes e. absurd cc }

content_spelled : (place : Standing) (at code : ℕ) → place.count ≤ 65535 → IsSpelled (content_at place at code) content (IsKind place code)
content_spelled place at code few =
    let may = IsKind place code in
    IsSpelled-either (code == 1) promised_at _ content may (at_code place code 1 (promised_spelled place)) (λ n1.
    IsSpelled-either (code == 2) accepted_at _ content may (at_code place code 2 (accepted_spelled place)) (λ n2.
    IsSpelled-either (code == 3) (known_at place) _ content may (at_code place code 3 (known_spelled place)) (λ n3.
    IsSpelled-either (code == 4) (checkpoint_at place) _ content may (at_code place code 4 (checkpoint_spelled place few)) (λ n4.
    IsSpelled-either (code == 5) (dropped_at place) _ content may (at_code place code 5 (dropped_spelled place)) (λ n5.
    IsSpelled-either (code == 6) (transferred_at place) (λ l. Err at) content may (at_code place code 6 (transferred_spelled place)) (λ n6.
    refused_spelled place code at))))))

-- a record that may stand there
pub record Fits (place : Standing) (r : Rec) : Type 0 where
  pub spelling : HasSpelling r
  pub due : IsDue place r

pub record_spelled : (place : Standing) → place.count ≤ 65535 → IsSpelled (record_at place) record_bytes (Fits place)
unfolding record_at
record_spelled place few = record {
  takes = λ l x bytes e.
      let code = step (number_spelled wide8) l (λ (code : ℕ × Left). content_at place l.at code.0 code.1) x bytes e in
      let t = (content_spelled place l.at code.value few).takes code.left x code.takes.bytes code.next in
      let number : Takes l (byte (code_of x.0)) code.left = rw t.1.code_is code.takes in
      (Takes-then l code.left x.1 _ _ number t.0, record { spelling = t.1.spelling; due = t.1.due });
}
