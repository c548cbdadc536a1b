-- The values that nodes agree on: the bytes of deltas, pieces of a trace of a service.
use Rattle.std.specs.Prelude.{ℕ, ◌<◌, ◌&&◌, ◌==◌, Bool, false, List, [], ◌∷◌, ◌++◌, length, get_or, map, is_some, nat_le, Result, Ok, Err, unwrap_or}
use Rattle.std.specs.List.{list_all}
use Rattle.rex_syntax.specs.declared.service.Declarations.{Declarations}
use Rattle.rex_event.specs.declared.event.Event.{Event}
use Rattle.rex_event.specs.declared.delta.Delta.{Delta}
use Rattle.rex_event.specs.Cuts.{beyond}
use Rattle.rex_reduce.specs.Reduction.{reduced}
use Rattle.rex_delta.specs.Reading.{delta_in}
pub use Rattle.rex_delta.specs.Spelling.{is_byte}
use Rattle.rex_state.specs.Value.{StateValue}
use Rattle.rex_state.specs.Start.{start_of}
use Rattle.rex_state.specs.Machine.{run}
use Rattle.rex_state.specs.Counts.{counts_of}
use Rattle.rex_record.specs.declared.recorder.Release.{Release}
use Rattle.rex_record.specs.Value.{releases}
use Rattle.rex_report.specs.declared.effect.Effect.{Effect}
use Rattle.rex_report.specs.declared.effect.Effect.TheVariants.{Released}
use Rattle.rex_cluster.specs.Node.{Service, dice_of}
use Rattle.rex_cluster.specs.Same.{same_lists}
use Rattle.rex_ballot.specs.declared.proposal.TheConstants.{VALUE_BYTES}

abbrev pub Value : Type 0
Value = List ℕ

-- each number of a value is a byte
abbrev pub IsBytes : Value → Type 0
IsBytes value = (i : ℕ) → get_or value i 0 < 256

-- a delta of nothing
abbrev pub no_delta : Delta
no_delta = record { bases = []; events = []; causes = [] }

-- the delta that was read, if one was
abbrev pub read_delta : Result Delta ℕ → Delta
read_delta (Ok d) = d
read_delta (Err at) = no_delta

-- the delta that a value spells, and its events
abbrev pub delta_of : Value → Delta
delta_of value = read_delta (delta_in value)

abbrev pub events_of : Value → List Event
events_of value = (delta_of value).events

-- the trace of values: their events, one value after the other
abbrev pub trace_of : List Value → List Event
trace_of [] = []
trace_of (value ∷ values) = events_of value ++ trace_of values

-- a delta of the service's lanes was read, and its causes are the least that are right for its events
abbrev pub is_piece : Declarations → Result Delta ℕ → Bool
is_piece service (Ok d) = length d.bases == service.lanes && same_lists d.causes (reduced d.events)
is_piece service (Err at) = false

-- a value has at most so many bytes
abbrev pub greatest_value : ℕ
greatest_value = VALUE_BYTES

-- a value is bytes, and not too many
abbrev pub may_be_value : Value → Bool
may_be_value value = nat_le (length value) greatest_value && list_all is_byte value

-- a value may be one, and spells such a delta
abbrev pub spells : Declarations → Value → Bool
spells service value = may_be_value value && is_piece service (delta_in value)

-- the events run from the start on one thread
abbrev pub runs : Declarations → List Event → Bool
runs service es = is_some (run service (start_of service) es)

-- the state after events from the start; the start itself where they don't run
abbrev pub state_after : Declarations → List Event → StateValue
state_after service es = unwrap_or (run service (start_of service) es) (start_of service)

-- each value spells a delta, and their trace runs
abbrev pub values_fit : Declarations → List Value → Bool
values_fit service values = list_all (spells service) values && runs service (trace_of values)

abbrev pub release_effect : Release → Effect
release_effect r = Released r.client r.sequence r.value

-- the replies of a value after others
abbrev pub replies_of : Declarations → List Value → Value → List Effect
replies_of service before value = map release_effect (releases (state_after service (trace_of before)).clients (events_of value))

-- the live events that aren't in the trace of these values: those past what their lanes did in it
abbrev pub still_live : Declarations → List Value → List Event → List Event
still_live service values live = beyond (counts_of (state_after service (trace_of values))) live

-- what the cluster needs of a service, with this seed
abbrev pub service_of : Declarations → ℕ → Service Value StateValue
service_of service seed = record {
  state = λ values. state_after service (trace_of values);
  fits = values_fit service;
  size = λ value. length (events_of value);
  replies = replies_of service;
  remaining = still_live service;
  dice = dice_of seed;
}
