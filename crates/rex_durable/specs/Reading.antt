-- Reading a record from left to right, a field a line, with the first field that is absent, cut short or not allowed.
use Rattle.std.specs.Prelude.{◌==◌, ℕ, ◌+◌, ◌&&◌, max, nat_lt, List, Result, Ok, Err, if◌then◌else◌}
use Rattle.std.specs.Int.{w8, w32, w64}
use Rattle.rex_ballot.specs.Ballot.{is_ballot, is_instance}
use Rattle.rex_wire.specs.Ranges.{is_between}
use Rattle.rex_wire.specs.Reading.{Left, Reading, ◌>>=◌, number_at, allowed_at, value_at, whole}
use Rattle.rex_durable.specs.declared.records.Rec.{Rec}
use Rattle.rex_durable.specs.declared.records.Rec.TheVariants.{Promised, Accepted, Known, Checkpoint, Dropped, Transferred}
use Rattle.rex_durable.specs.declared.records.Standing.{Standing}

unfoldable pub promised_at : Left → Reading Rec
promised_at l = do
  ballot ← allowed_at w64 is_ballot l
  Ok (Promised ballot.0, ballot.1)

unfoldable pub accepted_at : Left → Reading Rec
accepted_at l = do
  ballot ← allowed_at w64 is_ballot l
  instance ← allowed_at w32 is_instance ballot.1
  value ← value_at instance.1
  Ok (Accepted ballot.0 instance.0 value.0, value.1)

-- of the instance after those that are known before
unfoldable pub known_at : Standing → Left → Reading Rec
known_at s l = do
  instance ← allowed_at w32 (λ n. is_instance n && n == s.count + 1) l
  value ← value_at instance.1
  Ok (Known instance.0 value.0, value.1)

-- of values that are known before, those that aren't held among them
unfoldable pub checkpoint_at : Standing → Left → Reading Rec
checkpoint_at s l = do
  deltas ← allowed_at w32 (is_between (max 1 s.offset) s.count) l
  snapshot ← value_at deltas.1
  Ok (Checkpoint deltas.0 snapshot.0, snapshot.1)

-- up to the base, where it is above the offset
unfoldable pub dropped_at : Standing → Left → Reading Rec
dropped_at s l = do
  deltas ← allowed_at w32 (λ n. is_instance n && (nat_lt s.offset n && n == s.base)) l
  Ok (Dropped deltas.0, deltas.1)

-- of more values than are known before
unfoldable pub transferred_at : Standing → Left → Reading Rec
transferred_at s l = do
  deltas ← allowed_at w32 (λ n. is_instance n && nat_lt s.count n) l
  snapshot ← value_at deltas.1
  Ok (Transferred deltas.0 snapshot.0, snapshot.1)

-- what follows the number of a kind, which begins at this offset
abbrev pub content_at : Standing → ℕ → ℕ → Left → Reading Rec
content_at s at code l =
    if code == 1 then promised_at l
    else if code == 2 then accepted_at l
    else if code == 3 then known_at s l
    else if code == 4 then checkpoint_at s l
    else if code == 5 then dropped_at s l
    else if code == 6 then transferred_at s l
    else Err at

-- a record at the front of bytes, behind others
unfoldable pub record_at : Standing → Left → Reading Rec
record_at s l = do
  code ← number_at w8 l
  content_at s l.at code.0 code.1

-- a record that is all of the bytes, or the offset at which the first bad field begins; of bytes after a whole record that is its length
unfoldable pub record_in : Standing → List ℕ → Result Rec ℕ
record_in s bytes = whole (record_at s) bytes
