-- What is true of histories that lanes make.
use Rattle.std.specs.Prelude.{◌≡◌, ℕ, Bool, true, false, pos, List, ◌∷◌, ◌++◌, length, Option, Some, None}
use Rattle.rand_pcg.specs.Lcg.{Lcg}
use Rattle.rand_pcg.specs.Pcg.{pcg32}
use Rattle.rex_syntax.specs.declared.request.Request.{Request}
use Rattle.rex_syntax.specs.declared.service.Declarations.{Declarations}
use Rattle.rex_syntax.specs.Service.{IsService}
use Rattle.rex_syntax.specs.Check.{IsChecked}
use Rattle.rex_event.specs.declared.event.Event.{Event}
use Rattle.rex_event.specs.declared.event.Kind.{Kind}
use Rattle.rex_event.specs.declared.event.Kind.TheVariants.{Begin, TryBusy, Clock, Random}
use Rattle.rex_event.specs.Order.{Has}
use Rattle.rex_state.specs.Locks.{is_free}
use Rattle.rex_frame.specs.Guarded.{may_read, may_write}
use Rattle.rex_state.specs.Value.{StateValue}
use Rattle.rex_state.specs.Machine.{frame_at, run}
use Rattle.rex_state.specs.Touched.{held_at}
use Rattle.rex_state.specs.Start.{start_of}
use Rattle.rex_state.specs.Sound.{IsSound}
use Rattle.rex_live.specs.Lent.{value_at, is_out, IsLent, IsLending}
use Rattle.rex_live.specs.Floor.{FloorValue, next_event, IsMade}

-- the history runs from the service's start to the floor's state, which is sound
pub record Runs (service : Declarations) (f : FloorValue) : Type 0 where
  pub runs : run service (start_of service) f.history ≡ Some f.state
  pub sound : IsSound service f.state

-- so does each history that lanes make
abbrev pub HistoriesRun : Type 0
HistoriesRun =
    (service : Declarations) (requests : List Request) (dice : Lcg) (f : FloorValue) → IsService service → IsChecked service → IsMade service requests dice f → Runs service f

-- what an event that is recorded at a floor says of it: a busy lock was held there, the clock is the number of events before it, a random number is the
-- dice's next word, and what is begun is a request that was handed in
abbrev pub IsTold : List Request → FloorValue → Kind → Type 0
IsTold requests f (TryBusy lock) = is_free lock f.state.lanes ≡ false
IsTold requests f (Clock value) = value ≡ pos (length f.history)
IsTold requests f (Random value) = value ≡ (pcg32 f.dice).0
IsTold requests f (Begin client sequence handler arguments) = Has (record { client = client; sequence = sequence; handler = handler; arguments = arguments }) requests
IsTold requests f _ = Unit {0}

-- lanes made the events before it, and it says what is so at the floor with these
pub record IsToldAfter (service : Declarations) (requests : List Request) (dice : Lcg) (before : List Event) (e : Event) : Type 0 where
  pub floor : FloorValue
  pub events : floor.history ≡ before
  pub made : IsMade service requests dice floor
  pub next : next_event service requests floor e.lane ≡ Some e
  pub told : IsTold requests floor e.kind

-- so does each event of a history that lanes make
abbrev pub EventsAreTold : Type 0
EventsAreTold =
    (service : Declarations) (requests : List Request) (dice : Lcg) (f : FloorValue) (before rest : List Event) (e : Event) → IsMade service requests dice f
    → f.history ≡ before ++ e ∷ rest → IsToldAfter service requests dice before e

-- the client and the sequence of the request that an event begins
abbrev pub begun_request : Kind → Option (ℕ × ℕ)
begun_request (Begin client sequence handler arguments) = Some (client, sequence)
begun_request _ = None

-- no two events of a history that lanes make begin one request
abbrev pub RequestsBeginOnce : Type 0
RequestsBeginOnce =
    (service : Declarations) (requests : List Request) (dice : Lcg) (f : FloorValue) (before between rest : List Event) (e y : Event) (request : ℕ × ℕ) → IsService service → IsChecked service → IsMade service requests dice f
    → f.history ≡ before ++ e ∷ (between ++ y ∷ rest) → begun_request e.kind ≡ Some request → begun_request y.kind ≡ Some request → ⊥

-- what is kept says of the state: what lanes hold, the queues, the semaphores' values and the clients' entries; the values of variables whose guards no lane holds exclusively; the frame of a lane that is back, and the values of
-- variables whose guards it holds; and of a lane that is out, where its lines lead from what is kept
pub record KeepsState (service : Declarations) (out : List Bool) (kept s : StateValue) : Type 0 where
  pub held : (lane : ℕ) → held_at kept lane ≡ held_at s lane
  pub queues : kept.queues ≡ s.queues
  pub semaphores : kept.semaphores ≡ s.semaphores
  pub clients : kept.clients ≡ s.clients
  pub free : (variable : ℕ) → ((lane : ℕ) → may_write service (held_at s lane) variable ≡ false) → value_at kept.variables variable ≡ value_at s.variables variable
  pub back : (lane : ℕ) → is_out out lane ≡ false → frame_at kept lane ≡ frame_at s lane
  pub guarded : (lane variable : ℕ) → is_out out lane ≡ false → may_read service (held_at s lane) variable ≡ true → value_at kept.variables variable ≡ value_at s.variables variable
  pub lent : (lane : ℕ) → is_out out lane ≡ true → IsLent service kept s lane

-- so it does wherever lines are out
abbrev pub LendingKeepsState : Type 0
LendingKeepsState =
    (service : Declarations) (out : List Bool) (kept s : StateValue) → IsService service → IsLending service out kept s → KeepsState service out kept s
