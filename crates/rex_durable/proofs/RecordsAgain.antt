-- Records: what is spelled is read again.
use Rattle.std.proofs.Common.{◌≡◌, ℕ, ◌+◌, ◌<◌, ◌≤◌, List, ◌++◌, Ok, arith}
use Rattle.std.specs.Prelude.{◌==◌, ◌&&◌, max, nat_lt}
use Rattle.std.specs.Int.{w8, w32, w64, to_be_bytes}
use Rattle.rex_ballot.specs.Ballot.{IsBallot, IsInstance, is_ballot, is_instance}
use Rattle.rex_ballot.specs.Proposals.{IsValue}
use Rattle.rex_ballot.proofs.Numbers.{ballot-is, ballot-below, instance-is}
use Rattle.rex_wire.specs.Reading.{allowed_at, number_at, value_at}
use Rattle.rex_wire.specs.Spelling.{byte, value_bytes}
use Rattle.rex_wire.specs.Ranges.{is_between}
use Rattle.rex_wire.proofs.Fields.{IsRead, IsRead-then, IsRead-last}
use Rattle.rex_wire.proofs.Numbers.{wide8, wide32, wide64, number_again, allowed_again}
use Rattle.rex_wire.proofs.Ranges.{between-is}
use Rattle.rex_wire.proofs.Values.{value_again}
use Rattle.rex_wire.proofs.Whole.{whole_again}
use Rattle.rex_durable.specs.declared.records.Rec.{Rec}
use Rattle.rex_durable.specs.declared.records.Rec.TheVariants.{Promised, Accepted, Known, Checkpoint, Dropped, Transferred}
use Rattle.rex_durable.specs.declared.records.Standing.{Standing}
use Rattle.rex_durable.specs.Spelling.{code_of, content, record_bytes, HasSpelling, IsDue, IsInRange}
use Rattle.rex_durable.specs.Reading.{promised_at, accepted_at, known_at, checkpoint_at, dropped_at, transferred_at, content_at, record_at, record_in}
use Rattle.rex_durable.proofs.Allowed.{next-is, base-is, above-is}

ballot_again : (b : ℕ) → IsBallot b → IsRead (allowed_at w64 is_ballot) (to_be_bytes w64 b) b
ballot_again b h = allowed_again wide64 is_ballot b (ballot-below b h) (ballot-is b h)

instance_again : (i : ℕ) → IsInstance i → IsRead (allowed_at w32 is_instance) (to_be_bytes w32 i) i
instance_again i h = allowed_again wide32 is_instance i (let last = h.last in omega arith) (instance-is i h)

next_again : (count i : ℕ) → IsInstance i → i ≡ count + 1 → IsRead (allowed_at w32 (λ n. is_instance n && n == count + 1)) (to_be_bytes w32 i) i
next_again count i h e = allowed_again wide32 (λ n. is_instance n && n == count + 1) i (let last = h.last in omega arith) (next-is count i h e)

within_again : (least count k : ℕ) → IsInstance k → least ≤ k → k ≤ count → IsRead (allowed_at w32 (is_between (max 1 least) count)) (to_be_bytes w32 k) k
within_again least count k h from le = allowed_again wide32 (is_between (max 1 least) count) k (let last = h.last in omega arith) (between-is (max 1 least) count k (let first = h.first in omega arith, le))

base_again : (offset base k : ℕ) → IsInstance k → offset < k → k ≡ base → IsRead (allowed_at w32 (λ n. is_instance n && (nat_lt offset n && n == base))) (to_be_bytes w32 k) k
base_again offset base k h l e = allowed_again wide32 (λ n. is_instance n && (nat_lt offset n && n == base)) k (let last = h.last in omega arith) (base-is offset base k h l e)

above_again : (count k : ℕ) → IsInstance k → count < k → IsRead (allowed_at w32 (λ n. is_instance n && nat_lt count n)) (to_be_bytes w32 k) k
above_again count k h l = allowed_again wide32 (λ n. is_instance n && nat_lt count n) k (let last = h.last in omega arith) (above-is count k h l)

pub promised_again : (b : ℕ) → IsBallot b → IsRead promised_at (content (Promised b)) (Promised b)
unfolding promised_at
promised_again b h = IsRead-last (allowed_at w64 is_ballot) Promised (to_be_bytes w64 b) b (ballot_again b h)

-- three fields one after the other
pub accepted_again : (b i : ℕ) (v : List ℕ) → IsBallot b → IsInstance i → IsValue v → IsRead accepted_at (to_be_bytes w64 b ++ (to_be_bytes w32 i ++ value_bytes v)) (Accepted b i v)
unfolding accepted_at
accepted_again b i v hb hi hv =
    IsRead-then (allowed_at w64 is_ballot) _ (to_be_bytes w64 b) (to_be_bytes w32 i ++ value_bytes v) b (Accepted b i v) (ballot_again b hb)
    (IsRead-then (allowed_at w32 is_instance) _ (to_be_bytes w32 i) (value_bytes v) i (Accepted b i v) (instance_again i hi)
    (IsRead-last value_at (Accepted b i) (value_bytes v) v (value_again v hv.few)))

known_again : (place : Standing) (i : ℕ) (v : List ℕ) → IsInstance i → i ≡ place.count + 1 → IsValue v → IsRead (known_at place) (content (Known i v)) (Known i v)
unfolding known_at
known_again place i v hi e hv =
    IsRead-then (allowed_at w32 (λ n. is_instance n && n == place.count + 1)) _ (to_be_bytes w32 i) (value_bytes v) i (Known i v) (next_again place.count i hi e)
    (IsRead-last value_at (Known i) (value_bytes v) v (value_again v hv.few))

checkpoint_again : (place : Standing) (k : ℕ) (v : List ℕ) → IsInstance k → place.offset ≤ k → k ≤ place.count → IsValue v → IsRead (checkpoint_at place) (content (Checkpoint k v)) (Checkpoint k v)
unfolding checkpoint_at
checkpoint_again place k v hk from le hv =
    IsRead-then (allowed_at w32 (is_between (max 1 place.offset) place.count)) _ (to_be_bytes w32 k) (value_bytes v) k (Checkpoint k v) (within_again place.offset place.count k hk from le)
    (IsRead-last value_at (Checkpoint k) (value_bytes v) v (value_again v hv.few))

dropped_again : (place : Standing) (k : ℕ) → IsInstance k → place.offset < k → k ≡ place.base → IsRead (dropped_at place) (content (Dropped k)) (Dropped k)
unfolding dropped_at
dropped_again place k hk l e = IsRead-last (allowed_at w32 (λ n. is_instance n && (nat_lt place.offset n && n == place.base))) Dropped (to_be_bytes w32 k) k (base_again place.offset place.base k hk l e)

transferred_again : (place : Standing) (k : ℕ) (v : List ℕ) → IsInstance k → place.count < k → IsValue v → IsRead (transferred_at place) (content (Transferred k v)) (Transferred k v)
unfolding transferred_at
transferred_again place k v hk l hv =
    IsRead-then (allowed_at w32 (λ n. is_instance n && nat_lt place.count n)) _ (to_be_bytes w32 k) (value_bytes v) k (Transferred k v) (above_again place.count k hk l)
    (IsRead-last value_at (Transferred k) (value_bytes v) v (value_again v hv.few))

content_again : (place : Standing) (at : ℕ) (r : Rec) → IsInRange r → IsDue place r → IsRead (content_at place at (code_of r)) (content r) r
content_again place at (Promised b) h due = promised_again b h
content_again place at (Accepted b i v) h due = accepted_again b i v h.0 h.1 h.2
content_again place at (Known i v) h due = known_again place i v h.0 due h.1
content_again place at (Checkpoint k v) h due = checkpoint_again place k v h.0 due.0 due.1 h.1
content_again place at (Dropped k) h due = dropped_again place k h due.0 due.1
content_again place at (Transferred k v) h due = transferred_again place k v h.0 due h.1

pub code_small : (r : Rec) → code_of r < 256
code_small (Promised b) = omega arith
code_small (Accepted b i v) = omega arith
code_small (Known i v) = omega arith
code_small (Checkpoint k v) = omega arith
code_small (Dropped k) = omega arith
code_small (Transferred k v) = omega arith

pub record_again : (place : Standing) (r : Rec) → HasSpelling r → IsDue place r → IsRead (record_at place) (record_bytes r) r
unfolding record_at
record_again place r h due = record {
  again = λ at rest.
      (IsRead-then (number_at w8) (λ code. content_at place at code.0 code.1) (byte (code_of r)) (content r) (code_of r) r
      (number_again wide8 (code_of r) (code_small r)) (content_again place at r h.in_range due)).again at rest;
}

pub record_read : (place : Standing) (r : Rec) → HasSpelling r → IsDue place r → record_in place (record_bytes r) ≡ Ok r
unfolding record_in
record_read place r h due = whole_again (record_again place r h due)
