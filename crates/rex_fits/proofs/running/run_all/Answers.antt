use Rattle.std.proofs.Common.{sym, ◌∙◌}
use Rattle.rex_fits.proofs.Runs.{in_part, one_further, stops}
use Rattle.rex_fits.proofs.running.run_all.Goals as goal

pub loop-event-preserved : goal.loop-event-preserved
loop-event-preserved c =
    one_further c.args.svc.now c.args.state.now c.args.events.now c.loop-event.state c.loop-event.event-index c.loop-event.invariant c.event-item.result c.loop-event-test.true c.event-item.is
    c.apply.new.self c.apply.ensures.next c.apply.ensures.sound

pub returns-then-not-is_next-clause-all : goal.returns-then-not-is_next-clause-all
returns-then-not-is_next-clause-all c =
    sym (stops c.args.svc.now c.args.state.now c.args.events.now c.loop-event.state c.loop-event.event-index c.loop-event.invariant c.event-item.result c.loop-event-test.true c.event-item.is
    (sym c.is_next.ensures ∙ c.if-not-is_next.true))

pub returns-then-not-is_next-clause-part : goal.returns-then-not-is_next-clause-part
returns-then-not-is_next-clause-part c = in_part c.args.svc.now c.args.state.now c.args.events.now c.loop-event.state c.loop-event.event-index c.loop-event.invariant
