use Rattle.rex_node.proofs.Common.{◌≡◌, ◌+◌, ◌<◌, ◌≤◌, length, min, refl, arith, knows}
use Rattle.rex_node.proofs.Asked.{told_more, told_end, told_first, told_none}
use Rattle.rex_node.proofs.node.Node.tell_chosen.Goals as goal

pub loop-place-init : goal.loop-place-init
loop-place-init g c = told_first _ _ _ c.args.to c.saturating_sub-skipped.ensures _ _

pub loop-place-preserved : goal.loop-place-preserved
loop-place-preserved g c =
    let there : c.loop-place.place < length (knows g.P.Past.past c.args.self.now) = omega (arith, c.loop-place-test.true, c.min-end.ensures, c.count.ensures.known) in
    told_more _ _ _ c.args.to c.saturating_sub-skipped.ensures _ _ c.loop-place.invariant c.loop-place.auto.place there refl c.in_ok-tell_one.ensures

pub tell_one-requires-clause-there : goal.tell_one-requires-clause-there
tell_one-requires-clause-there g c = omega (arith, c.loop-place-test.true, c.min-end.ensures, c.count.ensures.known)

pub tell_one-requires-clause-held : goal.tell_one-requires-clause-held
tell_one-requires-clause-held g c = omega (arith, c.requires.held, c.saturating_sub-skipped.ensures, c.loop-place.auto.place)

pub returns-clause-sends : goal.returns-clause-sends
returns-clause-sends g c =
    let end : c.loop-place.place ≡ min (length (knows g.P.Past.past c.args.self.now)) (c.saturating_sub-skipped.result + 64) = omega (arith, c.requires.first, c.saturating_sub-skipped.ensures, c.loop-place-test.false, c.loop-place.auto.place, c.loop-place.auto.place-end, c.min-end.ensures, c.count.ensures.known) in
    let within : c.saturating_sub-skipped.result ≤ length (knows g.P.Past.past c.args.self.now) = omega (arith, c.requires.first, c.saturating_sub-skipped.ensures) in
    told_end _ _ _ c.args.to c.saturating_sub-skipped.ensures _ _ c.loop-place.invariant end within

pub returns-clause-tells : goal.returns-clause-tells
returns-clause-tells g c none = told_none _ _ _ c.args.to c.saturating_sub-skipped.ensures _ _ c.loop-place.invariant none
