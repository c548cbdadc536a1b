use Rattle.rex_node.proofs.Common.{subst, arith, All, take_all, SpellsDelta}
use Rattle.rex_node.proofs.Deltas.{one_more}
use Rattle.rex_node.proofs.contents.are_deltas.Goals as goal

pub loop-index-preserved : goal.loop-index-preserved
loop-index-preserved c = one_more _ (let t = c.loop-index-test.true in omega (arith, t)) c.index-values-index.is c.loop-index.invariant (subst SpellsDelta c.as_slice.ensures (c.is_delta.ensures c.if-not-is_delta.false))

pub returns : goal.returns
returns c = λ _. subst (All SpellsDelta) (take_all c.loop-index.index c.args.values.now (let t = c.loop-index-test.false in omega (arith, t))) c.loop-index.invariant
