use Rattle.std.proofs.Common.{arith, ◌<◌, sym, ◌∙◌, length}
use Rattle.std.proofs.lemmas.List.{get_or_read}
use Rattle.rex_process.proofs.Applying.{far_more, unfit_next}
use Rattle.rex_process.proofs.starting.applied_all.Goals as goal

pub returns-then-not-branch-clause-unfit : goal.returns-then-not-branch-clause-unfit
returns-then-not-branch-clause-unfit c =
    let there : c.loop-place.place < length c.args.values.now = omega arith in
    unfit_next c.args.svc.now c.args.values.now c.loop-place.place c.loop-place.applied c.loop-place.invariant c.as_slice.result.now there
    (c.as_slice.ensures ∙ get_or_read c.args.values.now c.loop-place.place c.index-values-place.result there c.index-values-place.is c.as_slice.result.now)
    (sym c.in_ok-take.ensures.fits ∙ c.if-not-branch.true)

pub loop-place-preserved : goal.loop-place-preserved
loop-place-preserved c =
    let there : c.loop-place.place < length c.args.values.now = omega arith in
    far_more c.args.svc.now c.args.values.now c.loop-place.place c.loop-place.applied c.loop-place.invariant c.as_slice.result.now there
    (c.as_slice.ensures ∙ get_or_read c.args.values.now c.loop-place.place c.index-values-place.result there c.index-values-place.is c.as_slice.result.now)
    c.take.new.self (sym c.in_ok-take.ensures.fits ∙ c.if-not-branch.false) (c.in_ok-take.ensures.taken c.if-not-branch.false) c.in_ok-take.ensures.sound
