-- What an active node works with: a recorder, whose live events run from the state after the known deltas.
use Rattle.std.specs.Prelude.{◌≡◌, ◌<◌, List, [], ◌∷◌, ◌++◌, length, Option, Some, None}
use Rattle.std.specs.List.{All}
use Rattle.rex_syntax.specs.declared.service.Declarations.{Declarations}
use Rattle.rex_event.specs.declared.event.Event.{Event}
use Rattle.rex_state.specs.Value.{StateValue}
use Rattle.rex_state.specs.Start.{start_of}
use Rattle.rex_state.specs.Machine.{run}
use Rattle.rex_record.specs.Kept.{IsRecorder}
use Rattle.rex_schedule.specs.Fits.{RequestFits}
use Rattle.rex_schedule.specs.declared.scenario.ScheduleLine.{ScheduleLine}
use Rattle.rex_schedule.specs.declared.scenario.ScheduleLine.TheVariants.{Lane, CutBelow}
use Rattle.rex_cluster.specs.Records.{Proposal}
use Rattle.rex_cluster.specs.Node.{Work}
use Rattle.rex_cluster.specs.Clients.{HasClient, IsUnused}
use Rattle.rex_cluster.specs.Values.{Value, events_of, trace_of, still_live}

-- the events of an open proposal lead from the state after the known deltas to one from which the other live events lead to the live state
pub record GoesOn (service : Declarations) (known : List Value) (start state : StateValue) (live : List Event) (v : Value) : Type 0 where
  pub between : StateValue
  pub first : run service start (events_of v) ≡ Some between
  pub rest : run service between (still_live service (known ++ v ∷ []) live) ≡ Some state

abbrev pub OpenGoesOn : Declarations → List Value → StateValue → StateValue → List Event → Option (Proposal Value) → Type 0
OpenGoesOn service known start state live None = Unit {0}
OpenGoesOn service known start state live (Some p) = GoesOn service known start state live p.value

-- the known deltas run from the start, the live events go on from there, the queued requests could begin, and the open proposal may be known at any time; clients and sequences are in their ranges
pub record IsActing (service : Declarations) (known : List Value) (open_one : Option (Proposal Value)) (work : Work) : Type 0 where
  pub start : StateValue
  pub state : StateValue
  pub known_runs : run service (start_of service) (trace_of known) ≡ Some start
  pub recorder : IsRecorder service (record { start = start; live = work.live; state = state; queue = work.queue })
  pub goes_on : OpenGoesOn service known start state work.live open_one
  pub requests : All (RequestFits service) work.queue
  pub clients : All HasClient work.live
  pub unused : IsUnused state.clients

-- the lane that has its turn is one of the service's, and limits are as many as its lanes
abbrev pub HasLane : Declarations → ScheduleLine → Type 0
HasLane service (Lane node lane) = lane < service.lanes
HasLane service (CutBelow node limits) = length limits ≡ service.lanes
HasLane service _ = Unit {0}
