-- What a board replays: events that run from a state, with their causes.
use Rattle.std.specs.Prelude.{◌≡◌, ℕ, ℤ, pos, ◌<◌, List, length, slice_index_or, Some}
use Rattle.rex_syntax.specs.declared.service.Declarations.{Declarations}
use Rattle.rex_syntax.specs.Service.{IsService}
use Rattle.rex_event.specs.declared.event.Event.{Event}
use Rattle.rex_event.specs.declared.delta.Cause.{Cause}
use Rattle.rex_event.specs.Order.{Has}
use Rattle.rex_event.specs.Cuts.{count_at}
use Rattle.rex_event.specs.Causes.{cause_of, HasCauses, AreRight}
use Rattle.rex_state.specs.Value.{StateValue}
use Rattle.rex_state.specs.Machine.{run}
use Rattle.rex_state.specs.Sound.{IsSound}
use Rattle.rex_state.specs.Counts.{AreCounted}
use Rattle.rex_board.specs.declared.recording.Recording.{Recording}

-- each cause is one of the events
pub record AreEvents (es : List Event) (causes : List (List Cause)) : Type 0 where
  pub each : (e : Event) (list : List Cause) (c : Cause) → HasCauses e list es causes → Has c list → (d : Event) × Has d es × (cause_of d ≡ c)

-- events that run from a sound state of a service, each with an index that leaves room for one more, and their causes, which are right and are events
pub record IsRecording (service : Declarations) (start : StateValue) (es : List Event) (causes : List (List Cause)) : Type 0 where
  pub good : IsService service
  pub sound : IsSound service start
  pub last : StateValue
  pub runs : run service start es ≡ Some last
  pub counted : AreCounted es
  pub right : AreRight es causes
  pub events : AreEvents es causes

-- ---- the parts of a recording

abbrev pub service_of : Recording → Declarations
service_of r = r.service.value

abbrev pub start_of : Recording → StateValue
start_of r = r.start.value

abbrev pub events_of : Recording → List Event
events_of r = r.events.value

abbrev pub causes_of : Recording → List (List Cause)
causes_of r = r.causes.value

-- the recording is one
abbrev pub IsRight : Recording → Type 0
IsRight r = IsRecording (service_of r) (start_of r) (events_of r) (causes_of r)

-- how many variables the service has
abbrev pub variables_in : Recording → ℕ
variables_in r = length (service_of r).variables

-- a variable's value
abbrev pub value_of : List ℤ → ℕ → ℤ
value_of variables x = slice_index_or variables x (pos 0)

-- ---- events and their causes

-- the event is the lane's one with this index
pub record IsEventAt (r : Recording) (lane index : ℕ) (e : Event) : Type 0 where
  pub there : Has e (events_of r)
  pub lane_is : e.lane ≡ lane
  pub index_is : e.index ≡ index

-- these are causes of the event
abbrev pub AreCausesOf : Recording → Event → List Cause → Type 0
AreCausesOf r e list = HasCauses e list (events_of r) (causes_of r)

-- each cause of the event lies below the counts
pub record IsCovered (r : Recording) (counts : List ℕ) (e : Event) : Type 0 where
  pub each : (list : List Cause) (c : Cause) → AreCausesOf r e list → Has c list → c.index < count_at counts c.lane
