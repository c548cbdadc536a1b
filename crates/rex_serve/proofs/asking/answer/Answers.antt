use Rattle.std.proofs.Common.{◌≡◌, inr, subst}
use Rattle.rex_serve.specs.Answering.{BreaksOff, asked_of}
use Rattle.rex_serve.proofs.Broken.{left_as_is, on_err, untold}
use Rattle.rex_serve.proofs.Grown.{answers_frame}
use Rattle.rex_serve.proofs.asking.answer.Goals as goal

pub returns-clause-answers : goal.returns-clause-answers
returns-clause-answers g c =
    let is : c.in_ok-asked.asked ≡ asked_of c.args.process.now c.args.frame.now = cc c.in_ok-asked.ensures.asked in
    answers_frame g.K.Keeper.records g.K.Keeper.faults c.args.process.now c.act.new.process c.args.frame.now c.args.out.now.items c.act.new.out.items c.push_standing.new.out.items c.in_ok-asked.asked
    c.push_standing.result is c.in_ok-act.ensures.same c.in_ok-act.ensures.answered c.push_standing.ensures

pub returns-in_err-asked-clause-left : goal.returns-in_err-asked-clause-left
returns-in_err-asked-clause-left g c = on_err c.from_residual.result _ (inr (left_as_is g.K.Keeper.records g.K.Keeper.faults c.args.process.now (asked_of c.args.process.now c.args.frame.now)))

pub returns-in_err-act-clause-left : goal.returns-in_err-act-clause-left
returns-in_err-act-clause-left g c =
    let is : c.in_ok-asked.asked ≡ asked_of c.args.process.now c.args.frame.now = cc c.in_ok-asked.ensures.asked in
    on_err c.from_residual-in_err-act.result _ (subst (λ a. BreaksOff g.K.Keeper.records g.K.Keeper.faults c.args.process.now c.act.new.process a) is c.in_err-act.ensures.left)

pub returns-clause-left : goal.returns-clause-left
returns-clause-left g c =
    let is : c.in_ok-asked.asked ≡ asked_of c.args.process.now c.args.frame.now = cc c.in_ok-asked.ensures.asked in
    on_err c.push_standing.result _ (untold g.K.Keeper.records g.K.Keeper.faults c.args.process.now c.act.new.process c.in_ok-asked.asked (asked_of c.args.process.now c.args.frame.now) c.args.out.now.items c.act.new.out.items is
    c.in_ok-act.ensures.answered)
