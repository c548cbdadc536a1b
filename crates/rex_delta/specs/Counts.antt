-- How many events a delta has.
use Rattle.std.specs.Prelude.{ℕ, List, length, Result, Ok, Err}
use Rattle.std.specs.Int.{w8, w16}
use Rattle.rex_event.specs.declared.delta.Delta.{Delta}
use Rattle.rex_event.specs.Limits.{most_lanes}
use Rattle.rex_event.specs.declared.delta.TheConstants.{DELTA_EVENTS}
use Rattle.rex_wire.specs.Reading.{Left, Reading, ◌>>=◌, allowed_at}
use Rattle.rex_delta.specs.Spelling.{is_between}
use Rattle.rex_delta.specs.Reading.{first_before, events_at, bases_at, delta_in}
use Rattle.rex_delta.specs.Parts.{passed, into_array}

-- the number of events of a delta that was read, or where the first bad field begins
abbrev pub count_of : Result Delta ℕ → Result ℕ ℕ
count_of (Ok d) = Ok (length d.events)
count_of (Err at) = Err at

-- the number of events of the delta that is all of the bytes, or the offset at which the first bad field begins
abbrev pub count_in : List ℕ → Result ℕ ℕ
count_in bytes = count_of (delta_in bytes)

-- a delta at the front of bytes, of which the number of events is kept
unfoldable pub counted_at : Left → Reading ℕ
counted_at l = do
  version ← allowed_at w8 (is_between 1 2) l
  lanes ← allowed_at w8 (is_between 1 most_lanes) version.1
  bases ← into_array (bases_at lanes.0 lanes.1)
  count ← allowed_at w16 (is_between 1 DELTA_EVENTS) bases.1
  events ← passed (events_at bases.0.items (first_before version.0 bases.0.items count.0) count.0 count.1)
  Ok (count.0, events.1)
