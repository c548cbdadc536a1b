use Rattle.rex_node.proofs.Held.{IsLooked}
use Rattle.rex_node.proofs.contents.first_bad.Given as goal

-- the records from this one on were looked into
abbrev pub invariant-loop-back : goal.invariant-loop-back
invariant-loop-back g l = IsLooked l.offset (g.K.Keeper.records l.keeper) l.last l.back l.found l.later
