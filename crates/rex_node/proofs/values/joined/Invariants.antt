use Rattle.rex_node.proofs.Common.{take}
use Rattle.rex_node.proofs.Replays.{AreJoined}
use Rattle.rex_node.proofs.values.joined.Given as goal

-- the events of the values before this one
abbrev pub invariant-loop-value : goal.invariant-loop-value
invariant-loop-value l = AreJoined (take l.value-index l.values) l.events.items
