use Rattle.rex_node.proofs.Common.{◌-◌, length}
use Rattle.rex_node.proofs.Stamping.{IsSilent}
use Rattle.rex_node.proofs.replies.last_held.Given as goal

-- none of those behind replies
abbrev pub invariant-loop-back : goal.invariant-loop-back
invariant-loop-back l = IsSilent l.client l.known.offset l.known.values (length l.known.values - l.back)
