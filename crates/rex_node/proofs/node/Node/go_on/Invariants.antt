use Rattle.rex_node.proofs.Turns.{GoneOn}
use Rattle.rex_node.proofs.node.Node.go_on.Given as goal
use Rattle.rex_node.proofs.Common.{whole}

-- the node has gone on so far
abbrev pub invariant-loop-left : goal.invariant-loop-left
invariant-loop-left g l = GoneOn g.K.Keeper.records g.K.Keeper.append_gives g.K.Keeper.faults l.svc g.P.Past.past l.turns l.left (whole g.P.Past.past l.initial.self) (whole g.P.Past.past l.self) l.initial.draft l.draft

-- a round takes two turns
abbrev pub decreases-loop-left : goal.decreases-loop-left
decreases-loop-left g l = l.left
