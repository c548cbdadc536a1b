use Rattle.std.specs.Prelude.{Decides}
use Rattle.rex_clocks.proofs.First.{IsAheadIn}
use Rattle.rex_clocks.proofs.clock.is_any_more.Given as goal

abbrev pub invariant-loop-lane : goal.invariant-loop-lane
invariant-loop-lane l = Decides l.any (IsAheadIn l.counts l.others l.own l.lane)
