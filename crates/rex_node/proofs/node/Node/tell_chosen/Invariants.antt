use Rattle.rex_node.proofs.Common.{knows}
use Rattle.rex_node.proofs.Asked.{HasTold}
use Rattle.rex_node.proofs.node.Node.tell_chosen.Given as goal

-- the values up to this place were told
abbrev pub invariant-loop-place : goal.invariant-loop-place
invariant-loop-place g l = HasTold l.svc g.P.Past.past l.self.id l.to l.first l.skipped l.place (knows g.P.Past.past l.self) l.initial.draft l.draft
