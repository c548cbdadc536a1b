use Rattle.rex_process.proofs.Applying.{IsFar}
use Rattle.rex_process.proofs.starting.applied_all.Given as goal

-- the values before this one fit, and came to this
abbrev pub invariant-loop-place : goal.invariant-loop-place
invariant-loop-place l = IsFar l.svc l.values l.place l.applied
