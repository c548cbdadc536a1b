use Rattle.rex_node.proofs.Common.{◌≡◌, drop, replies_to}
use Rattle.rex_node.proofs.replies.replies_to.Given as goal

-- none of the events before replies
abbrev pub invariant-loop-event : goal.invariant-loop-event
invariant-loop-event l = replies_to l.client (drop l.event-index l.events) ≡ replies_to l.client l.events
