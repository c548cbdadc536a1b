use Rattle.std.proofs.Common.{◌≡◌}
use Rattle.rex_reduce.specs.Tables.{with_woken}
use Rattle.rex_reduce.proofs.tables.merge_each_woken.Given as goal

abbrev pub invariant-loop-lane : goal.invariant-loop-lane
invariant-loop-lane l = l.met ≡ with_woken l.initial.met l.rows l.event.kind l.lane
