use Rattle.std.proofs.Common.{⊎_elim, ◌<◌, ◌≤◌, sym, ◌∙◌, arith}
use Rattle.std.proofs.lemmas.Bool.{cases_lt}
use Rattle.rex_clocks.specs.Counts.{merged}
use Rattle.rex_clocks.proofs.Counts.{count_merged, merged_long, same_counts}
use Rattle.rex_clocks.proofs.clock.merge_counts.Goals as goal

pub returns : goal.returns
returns c =
    let a = c.args.counts.now in
    let b = c.args.others.now in
    let long = merged_long a b in
    let la = c.told-counts in
    let lb = c.told-others in
    let lc = c.loop-lane.invariant.long in
    same_counts c.loop-lane.counts (merged a b) (omega arith)
    (λ lane.
    ⊎_elim (λ (l : lane < c.args.lanes). c.loop-lane.invariant.done lane (omega (arith, c.loop-lane-test.false)) ∙ sym (count_merged a b lane))
    (λ (l : c.args.lanes ≤ lane).
    let zero = c.requires.beyond lane l in
    let both = count_merged a b lane in
    let kept = c.loop-lane.invariant.left lane (omega (arith, l, c.loop-lane.auto.lane-end)) in
    omega (arith, zero, both, kept))
    (cases_lt lane c.args.lanes))
