use Rattle.std.proofs.Common.{◌-◌, length}
use Rattle.rex_process.specs.Process.{here}
use Rattle.rex_process.specs.Going.{HasTurned, IsStill}
use Rattle.rex_process.proofs.process.Process.rounds.Given as goal

-- lanes have had turns
abbrev pub invariant-loop-made : goal.invariant-loop-made
invariant-loop-made g l = record {
  turned : HasTurned g.K.Keeper.records l.initial.self l.self l.events;
  still : IsStill g.K.Keeper.records g.K.Keeper.faults l.initial.self l.self;
}

-- no more events may be live than these
abbrev pub decreases-loop-made : goal.decreases-loop-made
decreases-loop-made g l = 4096 - length (here g.K.Keeper.records l.self).work.live
