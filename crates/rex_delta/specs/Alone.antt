-- The events of a delta, without their causes.
use Rattle.std.specs.Prelude.{ℕ, List, ◌++◌, Result, Ok, Err}
use Rattle.std.specs.Int.{w8, w16}
use Rattle.rex_event.specs.declared.event.Event.{Event}
use Rattle.rex_event.specs.declared.delta.Cause.{Cause}
use Rattle.rex_event.specs.declared.delta.Delta.{Delta}
use Rattle.rex_event.specs.Limits.{most_lanes}
use Rattle.rex_event.specs.declared.delta.TheConstants.{DELTA_EVENTS}
use Rattle.rex_wire.specs.Reading.{Left, Reading, ◌>>=◌, allowed_at}
use Rattle.rex_delta.specs.Spelling.{is_between}
use Rattle.rex_delta.specs.Reading.{first_before, events_at, bases_at, delta_in}
use Rattle.rex_delta.specs.Parts.{into_array}

-- the events of a delta that was read, or where the first bad field begins
abbrev pub events_of : Result Delta ℕ → Result (List Event) ℕ
events_of (Ok d) = Ok d.events
events_of (Err at) = Err at

-- the events of the delta that is all of the bytes, or the offset at which the first bad field begins
abbrev pub events_in : List ℕ → Result (List Event) ℕ
events_in bytes = events_of (delta_in bytes)

-- of events and their causes the events are kept
abbrev pub alone : Reading (List Event × List (List Cause)) → Reading (List Event)
alone read = read >>= λ x. Ok (x.0.0, x.1)

-- events that are read go behind others
abbrev pub behind : List Event → Reading (List Event) → Reading (List Event)
behind before read = read >>= λ es. Ok (before ++ es.0, es.1)

-- a delta at the front of bytes, whose events go behind others
unfoldable pub behind_at : List Event → Left → Reading (List Event)
behind_at before l = do
  version ← allowed_at w8 (is_between 1 2) l
  lanes ← allowed_at w8 (is_between 1 most_lanes) version.1
  bases ← into_array (bases_at lanes.0 lanes.1)
  count ← allowed_at w16 (is_between 1 DELTA_EVENTS) bases.1
  behind before (alone (events_at bases.0.items (first_before version.0 bases.0.items count.0) count.0 count.1))

-- the events of a delta that was read, behind others, or where the first bad field begins
abbrev pub behind_of : List Event → Result Delta ℕ → Result (List Event) ℕ
behind_of before (Ok d) = Ok (before ++ d.events)
behind_of before (Err at) = Err at
