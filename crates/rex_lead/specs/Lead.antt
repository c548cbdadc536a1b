-- A history that is led to agreement, and what is written of it.
use Rattle.std.specs.Prelude.{◌≡◌, ℕ, ◌≤◌, List, ◌++◌, length, Some, IsSome}
use Rattle.std.specs.List.{All}
use Rattle.std.specs.Simd.{first_chunks}
use Rattle.std.specs.Slice.Iter.{chunk_count}
use Rattle.rex_syntax.specs.declared.service.Declarations.{Declarations}
use Rattle.rex_syntax.specs.Service.{IsService}
use Rattle.rex_syntax.specs.Check.{IsChecked}
use Rattle.rex_event.specs.declared.event.Event.{Event}
use Rattle.rex_event.specs.declared.delta.TheConstants.{DELTA_EVENTS, HISTORY_EVENTS}
use Rattle.rex_delta.specs.Spelling.{HasTypedKind}
use Rattle.rex_reduce.specs.Reduced.{AreLeast}
use Rattle.rex_state.specs.Value.{StateValue}
use Rattle.rex_state.specs.Start.{start_of}
use Rattle.rex_state.specs.Machine.{run}
use Rattle.rex_schedule.specs.Fits.{ScenarioFits}
use Rattle.rex_schedule.specs.declared.scenario.Scenario.{Scenario}
use Rattle.rex_cluster.specs.Values.{Value, delta_of}
use Rattle.rex_cluster.specs.Invariant.{IsIn}
use Rattle.rex_cluster.specs.Agreed.{agreed}
use Rattle.rex_cluster.specs.Takes.{BeginsInRange}
use Rattle.rex_cluster.specs.World.{World}
use Rattle.rex_steady.specs.Blocks.{values_of}
use Rattle.rex_steady.specs.Steady.{IsSteady, live_world}
use Rattle.rex_steps.specs.Tracing.{values_text}
use Rattle.rex_world.specs.Report.{ends_text}

-- the history in blocks of as many events as a delta has at most, the last block being the rest
abbrev pub blocks_of : List Event → List (List Event)
blocks_of history = first_chunks DELTA_EVENTS (chunk_count (length history) DELTA_EVENTS) history

-- a history of events in their ranges that runs from the service's start, and is no longer than one may be
pub record CanBeLed (service : Declarations) (history : List Event) : Type 0 where
  pub few : length history ≤ HISTORY_EVENTS
  pub begins : All BeginsInRange history
  pub typed : All HasTypedKind history
  pub runs : IsSome (run service (start_of service) history)

-- the trace of what the nodes of a world agreed on, then their end lines
abbrev pub world_text : Declarations → World → List ℕ
world_text service w = values_text service 1 (agreed w) ++ ends_text service 1 w.nodes

-- the text of the world to which the scenario's nodes are led with these blocks
abbrev pub live_text : Declarations → Scenario → List (List Event) → List ℕ
live_text service s blocks = world_text service (live_world service s.requests s.seed s.nodes blocks)

-- the history runs from the service's start to this state; each node of the scenario comes to it; what the nodes agreed on is a value for each block, whose events are the block; and the causes of each value are the least that are right
pub record IsLed (service : Declarations) (s : Scenario) (history : List Event) : Type 0 where
  pub state : StateValue
  pub runs : run service (start_of service) history ≡ Some state
  pub steady : IsSteady service s.requests s.seed s.nodes (blocks_of history) state
  pub agreed_is : agreed (live_world service s.requests s.seed s.nodes (blocks_of history)) ≡ values_of service (blocks_of history)
  pub causes : (v : Value) → IsIn v (values_of service (blocks_of history)) → AreLeast (delta_of v).events (delta_of v).causes

-- so is each history, no longer than one may be, that runs from the start of a checked service, for a scenario that fits it
abbrev pub HistoriesAreLed : Type 0
HistoriesAreLed =
    (service : Declarations) (s : Scenario) (history : List Event) (state : StateValue) → IsService service → IsChecked service → ScenarioFits service s
    → length history ≤ HISTORY_EVENTS → All BeginsInRange history → All HasTypedKind history → run service (start_of service) history ≡ Some state → IsLed service s history
