use Rattle.rex_process.specs.Starting.{FirstArePlain}
use Rattle.rex_process.proofs.starting.first_other.Given as goal

-- the records before this one begin as plain ones
abbrev pub invariant-loop-place : goal.invariant-loop-place
invariant-loop-place g l = FirstArePlain (g.K.Keeper.records l.keeper) l.place
