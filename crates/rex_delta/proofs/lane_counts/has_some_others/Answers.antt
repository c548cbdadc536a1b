use Rattle.std.proofs.Common.{length, sym, ◌∙◌, arith}
use Rattle.rex_delta.proofs.Counting.{last_other}
use Rattle.rex_delta.proofs.lane_counts.has_some_others.Goals as goal

pub returns-then-left-eq1 : goal.returns-then-left-eq1
returns-then-left-eq1 c =
    last_other c.args.bases.now c.args.counts.now c.args.lane c.loop-other.other (length c.args.counts.now) c.args.count (omega (arith, c.loop-other-test.true)) (omega (arith, c.loop-other.invariant.so_far, c.if-left-eq1.true)) (sym c.has_event.ensures ∙ c.if-has_event.true) c.if-other-lane.true
