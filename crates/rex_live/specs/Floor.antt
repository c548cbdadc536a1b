-- What a floor came to, which event a lane makes there next, and which lists of events lanes can make.
use Rattle.std.specs.Prelude.{◌≡◌, ℕ, ◌<◌, ◌≤◌, ◌⊎◌, ◌&&◌, Bool, ℤ, pos, List, [], ◌∷◌, ◌++◌, length, find, nat_le, Option, Some, None, if◌then◌else◌, unwrap_or}
use Rattle.rand_pcg.specs.Lcg.{Lcg, started, increment_of}
use Rattle.rand_pcg.specs.Pcg.{pcg32, multiplier_64}
use Rattle.rex_syntax.specs.declared.request.Request.{Request}
use Rattle.rex_syntax.specs.declared.service.Declarations.{Declarations}
use Rattle.rex_frame.specs.declared.frame.Frame.{Frame}
use Rattle.rex_frame.specs.Phases.{is_running}
use Rattle.rex_event.specs.declared.event.Event.{Event}
use Rattle.rex_event.specs.declared.delta.TheConstants.{HISTORY_EVENTS}
use Rattle.rex_state.specs.declared.lane.Entry.{Entry}
use Rattle.rex_state.specs.Value.{StateValue}
use Rattle.rex_state.specs.Machine.{frame_at, can_begin, client_allows, enabled, next}
use Rattle.rex_state.specs.Start.{start_of}
use Rattle.rex_record.specs.declared.turns.Turn.{Turn}
use Rattle.rex_record.specs.declared.turns.Turn.TheVariants.{Done}
use Rattle.rex_record.specs.Turn.{begin_of, event_at, busy_turn, draws_at, dice_after}

-- the events so far, the state after them, and the dice for the next random number
pub record FloorValue : Type 0 where
  pub history : List Event
  pub state : StateValue
  pub dice : Lcg

-- the dice of a seed for ballot 17, that of node 1's first election
abbrev pub dice_of : ℕ → Lcg
dice_of seed = started 64 multiplier_64 seed (increment_of 64 17)

-- a floor with no events yet
abbrev pub opened : Declarations → Lcg → FloorValue
opened service dice = record { history = []; state = start_of service; dice = dice }

-- ---- a lane's next event

-- the service and the clients' entries allow an idle lane to begin the request
abbrev pub is_open : Declarations → List Entry → Request → Bool
is_open service clients request = can_begin service (begin_of request) && client_allows (begin_of request) clients

-- the first request whose begin the state allows the lane
abbrev pub first_open : Declarations → StateValue → ℕ → List Request → Option Request
first_open service s lane requests = find (λ request. enabled service lane (begin_of request) s) requests

-- the begin of a request, if there is one
abbrev pub begin_at : StateValue → ℕ → Option Request → Option Event
begin_at s lane None = None
begin_at s lane (Some request) = Some (event_at s lane (begin_of request))

-- the event of a turn that makes one
abbrev pub event_of : Turn → Option Event
event_of (Done e) = Some e
event_of _ = None

-- an idle lane begins the first request that it can, and a busy one makes the event of its turn
abbrev pub lane_event : Declarations → List Request → StateValue → ℕ → ℤ → ℕ → Option Frame → Option Event
lane_event service requests s lane clock random None = begin_at s lane (first_open service s lane requests)
lane_event service requests s lane clock random (Some f) = event_of (busy_turn service s lane f clock random (is_running f.phase))

-- the lane's next event, if it can go on: the clock is the number of events so far, a random number the dice's next word
abbrev pub next_event : Declarations → List Request → FloorValue → ℕ → Option Event
next_event service requests f lane = lane_event service requests f.state lane (pos (length f.history)) (pcg32 f.dice).0 (frame_at f.state lane)

-- the same, unless the history is as long as may be
abbrev pub turn_at : Declarations → List Request → FloorValue → ℕ → Option Event
turn_at service requests f lane = if nat_le HISTORY_EVENTS (length f.history) then None else next_event service requests f lane

-- the dice after the lane's next event: moved on where the lane reads them
abbrev pub dice_behind : Declarations → FloorValue → ℕ → Lcg
dice_behind service f lane = dice_after (draws_at service (frame_at f.state lane)) f.dice

-- the floor with one more event
abbrev pub recorded : Declarations → FloorValue → Event → FloorValue
recorded service f e = record {
  history = f.history ++ e ∷ [];
  state = unwrap_or (next service f.state e) f.state;
  dice = dice_behind service f e.lane;
}

-- the floor after a lane's turn
abbrev pub turned : Declarations → FloorValue → Option Event → FloorValue
turned service f None = f
turned service f (Some e) = recorded service f e

-- how many events a turn answers
abbrev pub answered : Option Event → ℕ
answered None = 0
answered (Some e) = 1

-- ---- histories

-- the events lead from one floor to another: each is the next event of its lane where it stands
abbrev pub LeadsTo : Declarations → List Request → FloorValue → List Event → FloorValue → Type 0
LeadsTo service requests f [] g = f ≡ g
LeadsTo service requests f (e ∷ es) g =
    (e.lane < service.lanes) × (next_event service requests f e.lane ≡ Some e) × LeadsTo service requests (recorded service f e) es g

-- lanes made the floor's history, from the start, with these dice at first
pub record IsMade (service : Declarations) (requests : List Request) (dice : Lcg) (f : FloorValue) : Type 0 where
  pub leads : LeadsTo service requests (opened service dice) f.history f
  pub few : length f.history ≤ HISTORY_EVENTS

-- no lane can go on, or the history is as long as may be
abbrev pub IsOver : Declarations → List Request → FloorValue → Type 0
IsOver service requests f = ((lane : ℕ) → lane < service.lanes → next_event service requests f lane ≡ None) ⊎ (length f.history ≡ HISTORY_EVENTS)

-- lanes made this history, and it is over
pub record IsHistory (service : Declarations) (requests : List Request) (dice : Lcg) (history : List Event) : Type 0 where
  pub floor : FloorValue
  pub events : floor.history ≡ history
  pub made : IsMade service requests dice floor
  pub over : IsOver service requests floor
