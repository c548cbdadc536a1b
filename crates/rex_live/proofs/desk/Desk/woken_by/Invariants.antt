use Rattle.std.proofs.Common.{◌≡◌}
use Rattle.rex_live.proofs.desk.Desk.woken_by.Given as goal

abbrev pub invariant-loop-places : goal.invariant-loop-places
invariant-loop-places g l = l.self ≡ l.fn.self
