-- What a floor keeps while lanes' lines up to their next events are out with their threads.
use Rattle.std.specs.Prelude.{◌≡◌, ℕ, ◌+◌, Bool, true, false, ℤ, pos, List, length, Option, slice_index_or, unwrap_or}
use Rattle.rex_syntax.specs.declared.locks.Lockset.{Lockset}
use Rattle.rex_syntax.specs.declared.service.Declarations.{Declarations}
use Rattle.rex_frame.specs.Guarded.{may_read, may_write}
use Rattle.rex_event.specs.declared.event.Event.{Event}
use Rattle.rex_state.specs.Value.{StateValue}
use Rattle.rex_state.specs.Own.{started}
use Rattle.rex_state.specs.Machine.{lane_of, frame_at, run}
use Rattle.rex_state.specs.Put.{with_lane, noted, lines_lead}
use Rattle.rex_state.specs.Start.{start_of}
use Rattle.rex_state.specs.Flows.{CheckedFlows, IsFlows}
use Rattle.rex_state.specs.Sound.{Fits, IsSoundBy, with_flows}
use Rattle.rex_state.specs.Touched.{held_at}

-- the state to which a history runs
abbrev pub state_of : Declarations → List Event → StateValue
state_of service history = unwrap_or (run service (start_of service) history) (start_of service)

-- the state after an event, before the lines up to its lane's next event
abbrev pub begun : Declarations → StateValue → Event → StateValue
begun service s e = noted (with_lane s e.lane ((lane_of s e.lane).done + 1) (started service e.kind (frame_at s e.lane))) e

-- the lane's lines up to its next event are out
abbrev pub is_out : List Bool → ℕ → Bool
is_out out lane = slice_index_or out lane false

-- a variable's value
abbrev pub value_at : List ℤ → ℕ → ℤ
value_at variables variable = slice_index_or variables variable (pos 0)

-- a lane's lines, run on what is kept, lead to its frame in the state, and to the values there of the variables whose guards it holds
pub record IsLent (service : Declarations) (kept s : StateValue) (lane : ℕ) : Type 0 where
  pub frame : (lines_lead service kept lane).0 ≡ frame_at s lane
  pub guarded : (variable : ℕ) → may_read service (held_at kept lane) variable ≡ true → value_at (lines_lead service kept lane).1 variable ≡ value_at s.variables variable

-- what is kept of a sound state whose lanes' lines are partly out: all but the frames of lanes that are out, and the values of variables whose guards such lanes hold exclusively
pub record IsLendingBy (p : CheckedFlows) (out : List Bool) (kept s : StateValue) : Type 0 where
  pub sound : IsSoundBy p s
  pub fits : (lane : ℕ) → Fits p (frame_at kept lane)
  pub variables : length kept.variables ≡ length s.variables
  pub lanes : length kept.lanes ≡ length s.lanes
  pub queues : kept.queues ≡ s.queues
  pub semaphores : kept.semaphores ≡ s.semaphores
  pub clients : kept.clients ≡ s.clients
  pub done : (lane : ℕ) → (lane_of kept lane).done ≡ (lane_of s lane).done
  pub back : (lane : ℕ) → is_out out lane ≡ false → frame_at kept lane ≡ frame_at s lane
  pub lent : (lane : ℕ) → is_out out lane ≡ true → IsLent p.service kept s lane
  pub others : (variable : ℕ) → ((lane : ℕ) → is_out out lane ≡ true → may_write p.service (held_at kept lane) variable ≡ false) → value_at kept.variables variable ≡ value_at s.variables variable

-- the same with some flows of the service
pub record IsLending (service : Declarations) (out : List Bool) (kept s : StateValue) : Type 0 where
  pub flows : List (List (Option Lockset))
  pub right : IsFlows (with_flows service flows)
  pub by : IsLendingBy (with_flows service flows) out kept s

-- the frame of the lane fits its handler by some flows of the service
pub record IsFitting (service : Declarations) (kept : StateValue) (lane : ℕ) : Type 0 where
  pub flows : List (List (Option Lockset))
  pub right : IsFlows (with_flows service flows)
  pub fits : Fits (with_flows service flows) (frame_at kept lane)

-- the values of those variables are taken over whose guards are held exclusively
pub record TakesWritten (service : Declarations) (held : Lockset) (values before later : List ℤ) : Type 0 where
  pub long : length later ≡ length before
  pub written : (variable : ℕ) → may_write service held variable ≡ true → value_at later variable ≡ value_at values variable
  pub others : (variable : ℕ) → may_write service held variable ≡ false → value_at later variable ≡ value_at before variable
