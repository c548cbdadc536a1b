use Rattle.rex_node.proofs.Common.{arith}
use Rattle.rex_node.proofs.Held.{ends_more}
use Rattle.rex_node.proofs.contents.ends_old.Goals as goal

pub loop-index-preserved : goal.loop-index-preserved
loop-index-preserved g c =
    ends_more c.loop-index.invariant
    (omega (arith, c.loop-index-test.true, c.len-index-end.ensures)) c.get.ensures c.old_with-old.ensures
