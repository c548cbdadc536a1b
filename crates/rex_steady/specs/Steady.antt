-- What a leader that nothing disturbs comes to.
use Rattle.std.specs.Prelude.{◌≡◌, ℕ, ◌≤◌, List, [], ◌∷◌, ◌++◌, length, map, Some}
use Rattle.std.specs.List.{All}
use Rattle.rex_ballot.specs.Limits.{most_nodes}
use Rattle.rex_ballot.specs.declared.ballots.TheConstants.{INSTANCES}
use Rattle.rex_syntax.specs.declared.request.Request.{Request}
use Rattle.rex_syntax.specs.declared.service.Declarations.{Declarations}
use Rattle.rex_syntax.specs.Service.{IsService}
use Rattle.rex_syntax.specs.Check.{IsChecked}
use Rattle.rex_event.specs.declared.event.Event.{Event}
use Rattle.rex_state.specs.Value.{StateValue}
use Rattle.rex_state.specs.Start.{start_of}
use Rattle.rex_state.specs.Machine.{run}
use Rattle.rex_record.specs.declared.turns.Turn.TheVariants.{Done}
use Rattle.rex_schedule.specs.Fits.{IsNode, RequestFits}
use Rattle.rex_cluster.specs.Values.{events_of, trace_of, state_after}
use Rattle.rex_cluster.specs.Agreed.{known_at}
use Rattle.rex_cluster.specs.World.{World, node_at, beginning}
use Rattle.rex_cluster.specs.Takes.{Doing, taken_in, does}
use Rattle.rex_cluster.specs.Takes.Doing.{Does, Takes}
use Rattle.rex_safety.specs.Doings.{world_after_doings}
use Rattle.rex_steady.specs.Schedule.{election, agreements, live_doings}
use Rattle.rex_steady.specs.Blocks.{joined, IsBlock, values_of}
use Rattle.rex_steady.specs.Settled.{IsSettled}

-- each event that a node is handed on the way is done
abbrev pub AreTaken : Declarations → List Request → ℕ → ℕ → World → List Doing → Type 0
AreTaken service requests seed n w [] = Unit {0}
AreTaken service requests seed n w (Does line ∷ rest) = AreTaken service requests seed n (does service requests seed n w (Does line)) rest
AreTaken service requests seed n w (Takes m e ∷ rest) =
    (taken_in service (node_at w.nodes m) e ≡ Done e) × AreTaken service requests seed n (does service requests seed n w (Takes m e)) rest

-- the world after the blocks were led to agreement
abbrev pub agreed_world : Declarations → List Request → ℕ → ℕ → List (List Event) → World
agreed_world service requests seed n blocks = world_after_doings service requests seed n (election ++ agreements blocks)

-- the world after the others replayed them, too
abbrev pub live_world : Declarations → List Request → ℕ → ℕ → List (List Event) → World
live_world service requests seed n blocks = world_after_doings service requests seed n (live_doings n blocks)

-- each event was taken; the world is settled on a value for each block, also before the replays; each node replayed all; the events of the values are the blocks; and each node knows a trace that leads to this state
pub record IsSteady (service : Declarations) (requests : List Request) (seed n : ℕ) (blocks : List (List Event)) (s : StateValue) : Type 0 where
  pub taken : AreTaken service requests seed n (beginning n) (live_doings n blocks)
  pub agreed : IsSettled n (values_of service blocks) (agreed_world service requests seed n blocks)
  pub settled : IsSettled n (values_of service blocks) (live_world service requests seed n blocks)
  pub replayed : (m : ℕ) → IsNode n m → (node_at (live_world service requests seed n blocks).nodes m).replayed ≡ length blocks
  pub events : map events_of (values_of service blocks) ≡ blocks
  pub trace : trace_of (values_of service blocks) ≡ joined blocks
  pub state : (m : ℕ) → IsNode n m → state_after service (trace_of (known_at (live_world service requests seed n blocks) m)) ≡ s

-- so it is wherever the blocks are no more than there are instances and run from the start, for at most nine nodes
abbrev pub LeadersAreSteady : Type 0
LeadersAreSteady =
    (service : Declarations) (requests : List Request) (seed n : ℕ) (blocks : List (List Event)) (s : StateValue) → 1 ≤ n → n ≤ most_nodes → IsService service → IsChecked service → All (RequestFits service) requests
    → All IsBlock blocks → length blocks ≤ INSTANCES → run service (start_of service) (joined blocks) ≡ Some s → IsSteady service requests seed n blocks s
