use Rattle.std.proofs.Common.{⊎_elim, ◌<◌, ◌≤◌, ◌∙◌, arith}
use Rattle.std.proofs.lemmas.Bool.{cases_lt}
use Rattle.rex_clocks.proofs.Counts.{same_counts}
use Rattle.rex_clocks.proofs.clock.copy_counts.Goals as goal

pub returns : goal.returns
returns c =
    let other = c.told-others in
    let long = c.loop-lane.invariant.long in
    same_counts c.loop-lane.counts c.args.others.now (omega arith)
    (λ lane.
    ⊎_elim (λ (l : lane < c.args.used). c.loop-lane.invariant.done lane (omega (arith, c.loop-lane-test.false)))
    (λ (l : c.args.used ≤ lane). c.loop-lane.invariant.left lane (omega (arith, l, c.loop-lane.auto.lane-end)) ∙ c.requires.beyond lane l)
    (cases_lt lane c.args.used))
