use Rattle.rex_node.proofs.Common.{◌+◌, min, ◌∷◌, [], ◌++◌, get_or, refl, ap, ◌∙◌}
use Rattle.rex_cluster.proofs.Between.{limits_more}
use Rattle.rex_node.proofs.bounds.limits_between.Goals as goal

pub loop-lane-preserved : goal.loop-lane-preserved
loop-lane-preserved c =
    c.in_ok-push.ensures.items
    ∙ ap (λ n. c.loop-lane.counts.items ++ n ∷ []) c.limit_between.ensures
    ∙ ap (λ ns. ns ++ min (get_or c.args.firsts.now c.loop-lane.lane 0 + get_or c.args.limits.now c.loop-lane.lane 0) (get_or c.args.lasts.now c.loop-lane.lane 0) ∷ []) c.loop-lane.invariant
    ∙ limits_more _ _ _
    c.loop-lane-test.true c.requires.firsts c.requires.lasts refl refl refl
