use Rattle.rex_node.proofs.Held.{EndsSo}
use Rattle.rex_node.proofs.contents.ends_old.Given as goal

-- the records before this one were looked into
abbrev pub invariant-loop-index : goal.invariant-loop-index
invariant-loop-index g l = EndsSo (g.K.Keeper.records l.keeper) l.index l.old
