use Rattle.rex_node.proofs.Common.{◌≡◌, take}
use Rattle.rex_node.proofs.restart.begin_alike.Given as goal

-- the values before are the same
abbrev pub invariant-loop-index : goal.invariant-loop-index
invariant-loop-index l = take l.index l.these ≡ take l.index l.those
