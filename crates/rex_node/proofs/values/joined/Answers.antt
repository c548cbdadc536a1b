use Rattle.rex_node.proofs.Common.{ap, events_of}
use Rattle.rex_node.proofs.Replays.{joined_more}
use Rattle.rex_node.proofs.values.joined.Goals as goal

pub loop-value-preserved : goal.loop-value-preserved
loop-value-preserved c =
    joined_more _ c.loop-value-test.true c.value-item.is c.loop-value.invariant
    (ap events_of c.as_slice.ensures) c.append_value.ensures.counted c.in_ok-append_value.ensures.events
