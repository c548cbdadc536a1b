-- What is kept of a world from line to line.
use Rattle.std.specs.Prelude.{◌≡◌, ◌≤◌, ◌<◌, ◌+◌, ◌^◌, ℕ, Bool, true, false, length, take}
use Rattle.std.specs.List.{All, list_all}
use Rattle.rex_ballot.specs.Limits.{most_nodes}
use Rattle.rex_syntax.specs.declared.service.Declarations.{Declarations}
use Rattle.rex_syntax.specs.Service.{IsService}
use Rattle.rex_syntax.specs.Check.{IsChecked}
use Rattle.rex_syntax.specs.Versions.{has_old_form}
use Rattle.rex_schedule.specs.Fits.{FormFits, IsNode, LineFits, RequestFits, ScenarioFits}
use Rattle.rex_schedule.specs.declared.scenario.Scenario.{Scenario}
use Rattle.rex_schedule.specs.declared.scenario.ScheduleLine.{ScheduleLine}
use Rattle.rex_cluster.specs.Agreed.{agreed}
use Rattle.rex_cluster.specs.World.{beginning}
use Rattle.rex_safety.specs.Kept.{IsKept}
use Rattle.rex_world.specs.declared.world.World.{World}
use Rattle.rex_world.specs.Members.{AreMembers, AreWithin}
use Rattle.rex_world.specs.World.{IsSpelled, TellsRightly, nodes_of, world_of}
use Rattle.rex_event.specs.declared.event.TheConstants.{CLIENT_ENTRIES}

-- the service is a checked one; memory was never short; the world of the model is one that lines lead to, and its agreed values are those that are kept here; each node is kept, and its keeper has failed, and will, in no more appends than lines were done; each message is spelled, and a state that it tells is right; requests fit; each message below the flushed ones was handed over; and there is a number for each client
pub record IsRunning {S : Type 0} (service : Declarations) (w : World S) : Type 0 where
  pub service_is : IsService service
  pub checked : IsChecked service
  pub whole : w.broken ≡ false
  pub few : nodes_of w ≤ most_nodes
  pub kept : IsKept service w.seed (nodes_of w) (world_of service w)
  pub agreed : w.agreed ≡ agreed (world_of service w)
  pub members : AreMembers service w.agreed w.seed (nodes_of w) 1 w.nodes.items
  pub within : AreWithin w.done w.nodes.items
  pub spelled : All IsSpelled w.net
  pub told : All (TellsRightly service w.agreed) w.net
  pub requests : All (RequestFits service) w.requests
  pub flushed : w.flushed ≤ length w.handed.items
  pub handed : list_all (λ (b : Bool). b) (take w.flushed w.handed.items) ≡ true
  pub clients : length w.seen.items ≡ CLIENT_ENTRIES

-- the same nodes, requests and seed
pub record IsSame {S : Type 0} (before after : World S) : Type 0 where
  pub nodes : nodes_of after ≡ nodes_of before
  pub requests : after.requests ≡ before.requests
  pub seed : after.seed ≡ before.seed

-- the world is one of the scenario's
pub record IsOf {S : Type 0} (s : Scenario) (w : World S) : Type 0 where
  pub nodes : nodes_of w ≡ s.nodes
  pub requests : w.requests ≡ s.requests
  pub seed : w.seed ≡ s.seed

-- a world runs, and a node of this number is there
pub record RunsWith {S : Type 0} (service : Declarations) (w : World S) (number : ℕ) : Type 0 where
  pub running : IsRunning service w
  pub there : IsNode (nodes_of w) number

-- a world runs, and a schedule line can be done in it and counted: it names what is there, in a form that its service has
pub record CanDo {S : Type 0} (service : Declarations) (w : World S) (line : ScheduleLine) : Type 0 where
  pub running : IsRunning service w
  pub fits : LineFits (nodes_of w) (length w.requests) service.lanes line
  pub form : FormFits (has_old_form service) line
  pub count : w.done + 1 < 2 ^ 32

-- a world runs, and the lines of a scenario's schedule can be done in it and counted
pub record CanRun {S : Type 0} (service : Declarations) (s : Scenario) (w : World S) : Type 0 where
  pub running : IsRunning service w
  pub fits : ScenarioFits service s
  pub of : IsOf s w
  pub count : w.done + length s.schedule < 2 ^ 32

-- the world of a scenario before its first line
pub record IsFirst {S : Type 0} (service : Declarations) (s : Scenario) (w : World S) : Type 0 where
  pub world : world_of service w ≡ beginning s.nodes
  pub nodes : nodes_of w ≡ s.nodes
  pub requests : w.requests ≡ s.requests
  pub seed : w.seed ≡ s.seed
  pub running : IsRunning service w
