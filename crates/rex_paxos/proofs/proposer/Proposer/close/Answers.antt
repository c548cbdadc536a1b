use Rattle.rex_paxos.proofs.Counted.{empty_counted}
use Rattle.rex_paxos.proofs.proposer.Proposer.close.Goals as goal

pub invariant_of-self : goal.invariant_of-self
invariant_of-self c = record {
  own = c.self.invariant.own;
  promises = c.self.invariant.promises;
  acceptances = empty_counted c.self.inside.nodes c.clear.new.self.items c.clear.ensures;
}

pub returns-clause-once : goal.returns-clause-once
returns-clause-once c = invariant_of-self c
