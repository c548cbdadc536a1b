use Rattle.std.proofs.Common.{refl, sym, ◌∙◌}
use Rattle.std.proofs.lemmas.List.{at_drop_all}
use Rattle.rex_state.specs.Machine.{run}
use Rattle.rex_tests.proofs.Boards.{goes_on}
use Rattle.rex_tests.proofs.board.apply_all.Goals as goal

pub apply-requires : goal.apply-requires
apply-requires c = c.loop-event.invariant.sound

pub loop-event-init : goal.loop-event-init
loop-event-init c = record { sound = c.requires; runs = refl }

pub loop-event-preserved : goal.loop-event-preserved
loop-event-preserved c =
    goes_on c.args.svc.now c.args.state.now c.args.events.now c.loop-event.state c.loop-event.event-index c.event-item.result c.loop-event-test.true c.event-item.is c.loop-event.invariant
    c.apply.new.state (c.apply.ensures.next c.if-not-apply.false) c.apply.ensures.sound

pub returns : goal.returns
returns c = λ h. sym c.loop-event.invariant.runs ∙ at_drop_all (run c.args.svc.now c.loop-event.state) c.args.events.now c.loop-event.event-index c.loop-event-test.false
