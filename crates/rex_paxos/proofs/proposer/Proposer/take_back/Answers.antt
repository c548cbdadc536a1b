use Rattle.std.proofs.Common.{length, ◌-◌}
use Rattle.rex_paxos.proofs.Counted.{counted_front}
use Rattle.rex_paxos.proofs.proposer.Proposer.take_back.Goals as goal

pub invariant_of-self : goal.invariant_of-self
invariant_of-self c = record {
  own = c.self.invariant.own;
  promises = counted_front c.self.inside.nodes (length c.self.inside.promised.items - 1) c.self.inside.promised.items c.pop-last.new.self.items c.pop-last.ensures.rest c.self.invariant.promises;
  acceptances = c.self.invariant.acceptances;
}

pub returns-clause-once : goal.returns-clause-once
returns-clause-once c = invariant_of-self c
