use Rattle.std.proofs.Common.{◌≡◌, ◌≤◌}
use Rattle.rex_process.specs.Going.{HasRound, IsStill}
use Rattle.rex_process.proofs.process.Process.round.Given as goal

-- the first lanes have had their turns
abbrev pub invariant-loop-lane : goal.invariant-loop-lane
invariant-loop-lane g l = record {
  lanes : l.lane-end ≡ l.initial.self.service.lanes;
  few : l.made ≤ l.lane;
  round : HasRound g.K.Keeper.records l.initial.self l.self l.lane l.made;
  still : IsStill g.K.Keeper.records g.K.Keeper.faults l.initial.self l.self;
}
