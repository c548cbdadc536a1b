-- What a run leaves of a world.
use Rattle.std.specs.Prelude.{◌≡◌, ◌+◌, length}
use Rattle.rex_syntax.specs.declared.service.Declarations.{Declarations}
use Rattle.rex_schedule.specs.declared.scenario.Scenario.{Scenario}
use Rattle.rex_cluster.specs.World.{after_lines}
use Rattle.rex_world.specs.declared.world.World.{World}
use Rattle.rex_world.specs.Kept.{IsRunning, IsSame}
use Rattle.rex_world.specs.World.{world_of}

-- the world has come to what the scenario's lines make of the model's world, it is running, over the same nodes, requests and seed, and so many lines more were done
pub record DidLines {S : Type 0} (service : Declarations) (s : Scenario) (before after : World S) : Type 0 where
  pub world : world_of service after ≡ after_lines service s.requests s.seed s.nodes (world_of service before) s.schedule
  pub running : IsRunning service after
  pub same : IsSame before after
  pub done : after.done ≡ before.done + length s.schedule
