use Rattle.rex_replay.proofs.Replays.{is_next, goes_on}
use Rattle.rex_crew.proofs.alone.do_all.Goals as goal

pub apply-requires-clause-next : goal.apply-requires-clause-next
apply-requires-clause-next g c =
    is_next c.args.svc.now c.args.state.now c.args.events.now c.loop-event.state c.loop-event.event-index c.event-item.result c.loop-event-test.true c.event-item.is c.loop-event.invariant

pub loop-event-preserved : goal.loop-event-preserved
loop-event-preserved g c =
    goes_on c.args.svc.now c.args.state.now c.args.events.now c.loop-event.state c.loop-event.event-index c.event-item.result c.loop-event-test.true c.event-item.is c.loop-event.invariant
    c.apply.new.self c.apply.ensures.next c.apply.ensures.sound
