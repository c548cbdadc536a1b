use Rattle.rex_world.proofs.Common.{◌≡◌, ◌+◌, ◌++◌, drop, after_lines, IsOf, IsRunning, releases_from, world_of}
use Rattle.rex_world.proofs.world.World.follow.Given as goal

-- the other lines lead from here where all lead from the first world, and report the releases that are left
abbrev pub invariant-loop-line : goal.invariant-loop-line
invariant-loop-line g l = record {
  running : IsRunning l.svc l.self;
  of : IsOf l.scenario l.self;
  done : l.self.done ≡ l.initial.self.done + l.line-index;
  world : after_lines l.svc l.scenario.requests l.scenario.seed l.scenario.nodes (world_of l.svc l.self) (drop l.line-index l.scenario.schedule)
      ≡ after_lines l.svc l.scenario.requests l.scenario.seed l.scenario.nodes (world_of l.svc l.initial.self) l.scenario.schedule;
  releases : l.releases.items ++ releases_from l.svc l.scenario (world_of l.svc l.self) (drop l.line-index l.scenario.schedule) ≡ releases_from l.svc l.scenario (world_of l.svc l.initial.self) l.scenario.schedule;
}
