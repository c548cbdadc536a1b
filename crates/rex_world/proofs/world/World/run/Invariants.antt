use Rattle.rex_world.proofs.Common.{◌≡◌, ◌+◌, ◌≤◌, drop, after_lines, IsOf, IsRunning, IsSame, report_from, world_of, IsWritten}
use Rattle.rex_world.proofs.world.World.run.Given as goal

-- what was written and what waits, with the report of the other lines, are the whole report, and the other lines lead from here where all lead from the first world
abbrev pub invariant-loop-line : goal.invariant-loop-line
invariant-loop-line g l = record {
  running : IsRunning l.svc l.self;
  of : IsOf l.scenario l.self;
  done : l.self.done ≡ l.initial.self.done + l.line-index;
  world : after_lines l.svc l.scenario.requests l.scenario.seed l.scenario.nodes (world_of l.svc l.self) (drop l.line-index l.scenario.schedule)
      ≡ after_lines l.svc l.scenario.requests l.scenario.seed l.scenario.nodes (world_of l.svc l.initial.self) l.scenario.schedule;
  same : IsSame l.initial.self l.self;
  written : IsWritten (g.K.Sink.taken l.initial.sink) (g.K.Sink.taken l.sink) l.waiting.items
      (report_from l.svc l.scenario.requests l.scenario.seed l.scenario.nodes (world_of l.svc l.self) (drop l.line-index l.scenario.schedule))
      (report_from l.svc l.scenario.requests l.scenario.seed l.scenario.nodes (world_of l.svc l.initial.self) l.scenario.schedule);
  later : g.K.Sink.faults l.initial.sink ≤ g.K.Sink.faults l.sink;
}
