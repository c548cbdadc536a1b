use Rattle.rex_node.proofs.Common.{arith, ◌≡◌, ◌<◌, [], ◌∷◌, ◌++◌, length, sym, ◌∙◌, take_more}
use Rattle.std.proofs.Common.{ap₂}
use Rattle.rex_node.proofs.restart.begin_alike.Goals as goal

pub loop-index-preserved : goal.loop-index-preserved
loop-index-preserved c =
    let test = c.loop-index-test.true in
    let this : c.loop-index.index < length c.args.these.now = let many = c.if-these-count.false in omega (arith, test, many) in
    let that : c.loop-index.index < length c.args.those.now = let many = c.if-those-count.false in omega (arith, test, many) in
    let same : c.index-these-index.result ≡ c.index-those-index.result = sym c.as_slice.ensures ∙ c.is_same.ensures (c.if-not-is_same.false) ∙ c.as_slice-in-loop-index.ensures in
    take_more c.args.these.now c.loop-index.index c.index-these-index.result this
    ∙ ap₂ (λ vs v. vs ++ v ∷ []) c.loop-index.invariant (sym c.index-these-index.is ∙ same ∙ c.index-those-index.is)
    ∙ sym (take_more c.args.those.now c.loop-index.index c.index-those-index.result that)
