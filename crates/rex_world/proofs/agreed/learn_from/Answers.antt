use Rattle.rex_world.proofs.Common.{◌∙◌, ◌≤◌, ◌<◌, [], length, sym, arith}
use Rattle.rex_world.proofs.Learning.{learned_end, learned_next}
use Rattle.rex_world.proofs.agreed.learn_from.Goals as goal

pub loop-index-preserved : goal.loop-index-preserved
loop-index-preserved g c =
    let inside : c.loop-index.index < length c.args.keeper.now.records = omega (arith, c.loop-index-test.true, c.len-index-end.ensures) in
    learned_next _ _ [] inside c.get.ensures c.in_ok-learn_record.ensures ∙ c.loop-index.invariant

pub returns : goal.returns
returns g c =
    let ended : length c.args.keeper.now.records ≤ c.loop-index.index = omega (arith, c.loop-index-test.false, c.len-index-end.ensures) in
    sym (learned_end _ ended) ∙ c.loop-index.invariant
