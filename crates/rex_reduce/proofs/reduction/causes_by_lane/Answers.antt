use Rattle.std.proofs.Common.{◌≡◌, ◌∙◌, ap, arith}
use Rattle.rex_event.specs.declared.event.TheConstants.{LANES}
use Rattle.rex_reduce.specs.Reduction.{uncovered}
use Rattle.rex_reduce.proofs.Beyond.{none_beyond}
use Rattle.rex_reduce.proofs.reduction.causes_by_lane.Goals as goal

pub returns : goal.returns
returns c =
    let q : c.loop-lane.lane ≡ c.lanes-lane-end.result = omega (arith, c.loop-lane-test.false, c.loop-lane.auto.lane-end) in
    c.loop-lane.invariant ∙ (ap (uncovered c.args.first.now c.args.met.now.clocks c.args.met.now.befores c.args.own) q
    ∙ none_beyond c.args.first.now c.args.met.now.clocks c.args.met.now.befores c.args.own c.lanes-lane-end.result LANES c.lanes-lane-end.ensures.few c.lanes-lane-end.ensures.beyond)
