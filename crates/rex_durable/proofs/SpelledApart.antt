-- No spelling begins another.
use Rattle.std.proofs.Common.{ℕ, Ok, arith}
use Rattle.std.specs.Prelude.{◌==◌, if◌then◌else◌}
use Rattle.std.specs.Int.{w32, to_be_bytes, w8}
use Rattle.rex_wire.specs.Reading.{Left, Reading, ◌>>=◌, number_at, value_at}
use Rattle.rex_wire.specs.Spelling.{byte, value_bytes}
use Rattle.rex_wire.proofs.Fields.{IsRead, IsRead-then, IsRead-last}
use Rattle.rex_wire.proofs.Numbers.{wide8, wide32, number_again}
use Rattle.rex_wire.proofs.Values.{value_again}
use Rattle.rex_wire.proofs.Whole.{begins_no_other}
use Rattle.rex_durable.specs.declared.records.Rec.{Rec}
use Rattle.rex_durable.specs.declared.records.Rec.TheVariants.{Promised, Accepted, Known, Checkpoint, Dropped, Transferred}
use Rattle.rex_durable.specs.Spelling.{code_of, content, record_bytes, HasSpelling, IsInRange}
use Rattle.rex_durable.specs.Reading.{promised_at, accepted_at}
use Rattle.rex_durable.specs.Laws.{NoSpellingBeginsAnother}
use Rattle.rex_durable.proofs.RecordsAgain.{promised_again, accepted_again, code_small}

-- reading wherever a record may stand
any_known : Left → Reading Rec
any_known l = do
  instance ← number_at w32 l
  value ← value_at instance.1
  Ok (Known instance.0 value.0, value.1)

any_checkpoint : Left → Reading Rec
any_checkpoint l = do
  deltas ← number_at w32 l
  snapshot ← value_at deltas.1
  Ok (Checkpoint deltas.0 snapshot.0, snapshot.1)

any_dropped : Left → Reading Rec
any_dropped l = do
  deltas ← number_at w32 l
  Ok (Dropped deltas.0, deltas.1)

any_transferred : Left → Reading Rec
any_transferred l = do
  deltas ← number_at w32 l
  snapshot ← value_at deltas.1
  Ok (Transferred deltas.0 snapshot.0, snapshot.1)

abbrev any_content : ℕ → Left → Reading Rec
any_content code l =
    if code == 1 then promised_at l
    else if code == 2 then accepted_at l
    else if code == 3 then any_known l
    else if code == 4 then any_checkpoint l
    else if code == 5 then any_dropped l
    else any_transferred l

any_record : Left → Reading Rec
any_record l = number_at w8 l >>= λ code. any_content code.0 code.1

content_again : (r : Rec) → IsInRange r → IsRead (any_content (code_of r)) (content r) r
unfolding any_known any_checkpoint any_dropped any_transferred
content_again (Promised b) h = promised_again b h
content_again (Accepted b i v) h = accepted_again b i v h.0 h.1 h.2
content_again (Known i v) h =
    IsRead-then (number_at w32) _ (to_be_bytes w32 i) (value_bytes v) i (Known i v) (number_again wide32 i (let last = h.0.last in omega arith))
    (IsRead-last value_at (Known i) (value_bytes v) v (value_again v h.1.few))
content_again (Checkpoint k v) h =
    IsRead-then (number_at w32) _ (to_be_bytes w32 k) (value_bytes v) k (Checkpoint k v) (number_again wide32 k (let last = h.0.last in omega arith))
    (IsRead-last value_at (Checkpoint k) (value_bytes v) v (value_again v h.1.few))
content_again (Dropped k) h = IsRead-last (number_at w32) Dropped (to_be_bytes w32 k) k (number_again wide32 k (let last = h.last in omega arith))
content_again (Transferred k v) h =
    IsRead-then (number_at w32) _ (to_be_bytes w32 k) (value_bytes v) k (Transferred k v) (number_again wide32 k (let last = h.0.last in omega arith))
    (IsRead-last value_at (Transferred k) (value_bytes v) v (value_again v h.1.few))

record_again : (r : Rec) → HasSpelling r → IsRead any_record (record_bytes r) r
unfolding any_record
record_again r h = IsRead-then (number_at w8) (λ code. any_content code.0 code.1) (byte (code_of r)) (content r) (code_of r) r (number_again wide8 (code_of r) (code_small r)) (content_again r h.in_range)

pub another : NoSpellingBeginsAnother
another r s rest hr hs same_bytes = begins_no_other (record_again r hr) (record_again s hs) rest same_bytes
