use Rattle.rex_world.proofs.Sending.{sends_next}
use Rattle.rex_world.proofs.calls.send_all.Goals as goal

pub loop-message-preserved : goal.loop-message-preserved
loop-message-preserved c =
    sends_next _ _
    c.loop-message-test.true c.message-item.is c.loop-message.invariant c.in_ok-send.ensures
