use Rattle.rex_record.proofs.Blocks.{takes_more}
use Rattle.rex_record.proofs.recorder.Recorder.take_each.Goals as goal

pub loop-event-preserved : goal.loop-event-preserved
loop-event-preserved c =
    takes_more c.args.svc.now c.reserve.new.self.value c.args.events.now c.loop-event.self.value c.take_reserved.new.self.value c.loop-event.event-index c.event-item.result c.take_reserved.result c.loop-event.self.spare c.take_reserved.new.self.spare
    c.loop-event-test.true c.event-item.is c.loop-event.invariant c.take_reserved.ensures.turn c.take_reserved.ensures.taken c.take_reserved.ensures.kept c.take_reserved.ensures.spare
