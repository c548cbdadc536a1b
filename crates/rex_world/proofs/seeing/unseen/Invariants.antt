use Rattle.rex_world.proofs.Common.{◌≡◌, replicate}
use Rattle.rex_world.proofs.seeing.unseen.Given as goal

abbrev pub invariant-loop : goal.invariant-loop
invariant-loop l = l.seen.items ≡ replicate l.counter 0
