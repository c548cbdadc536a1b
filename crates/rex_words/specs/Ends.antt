-- How a history of lanes ends.
use Rattle.std.specs.Prelude.{◌≡◌, ◌⊎◌, ℕ, ◌<◌, nat_eq, List, length, slice_get, Option, None, Some}
use Rattle.std.specs.List.{filter}
use Rattle.rex_syntax.specs.declared.request.Request.{Request}
use Rattle.rex_syntax.specs.declared.service.Declarations.{Declarations}
use Rattle.rex_event.specs.declared.event.Event.{Event}
use Rattle.rex_state.specs.Value.{StateValue}
use Rattle.rex_state.specs.Machine.{frame_at, run}
use Rattle.rex_state.specs.Start.{start_of}
use Rattle.rex_record.specs.Value.{is_begin}
use Rattle.rex_words.specs.Alone.{begin_next}
use Rattle.rex_words.specs.Dealing.{requests_for}
use Rattle.rex_words.specs.declared.limits.TheConstants.{IDLE_EVENTS}

-- the events of a lane in a history
abbrev pub events_of : ℕ → List Event → List Event
events_of lane history = filter (λ (e : Event). nat_eq e.lane lane) history

-- the events by which requests begin
abbrev pub begins_in : List Event → List Event
begins_in events = filter (λ (e : Event). is_begin e.kind) events

-- the first of a lane's requests that it doesn't begin in a history, where there is one
abbrev pub next_request : Declarations → List Request → ℕ → List Event → Option Request
next_request service requests lane history = slice_get (requests_for service.lanes lane requests) (length (begins_in (events_of lane history)))

-- the history runs to a state in which the lane is idle, and its next request may not begin, or it has more events than an idle lane may have that begins one
pub record EndsOver (service : Declarations) (requests : List Request) (lane : ℕ) (history : List Event) : Type 0 where
  pub state : StateValue
  pub runs : run service (start_of service) history ≡ Some state
  pub idle : frame_at state lane ≡ None
  pub over : (begin_next service lane state (next_request service requests lane history) ≡ None) ⊎ (IDLE_EVENTS < length (events_of lane history))
