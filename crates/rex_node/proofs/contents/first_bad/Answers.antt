use Rattle.rex_node.proofs.Common.{◌-◌, ap, arith}
use Rattle.rex_node.proofs.Held.{looked_none, looked_more}
use Rattle.rex_node.proofs.contents.first_bad.Goals as goal

pub loop-back-init : goal.loop-back-init
loop-back-init g c = looked_none

pub loop-back-preserved : goal.loop-back-preserved
loop-back-preserved g c =
    looked_more c.loop-back.invariant
    (omega (arith, c.loop-back-test.true, c.len-count.ensures)) (ap (λ n. n - 1 - c.loop-back.back) c.len-count.ensures) c.get-bytes.ensures c.bad_in.ensures c.place_or-found.ensures c.comes-later.ensures
