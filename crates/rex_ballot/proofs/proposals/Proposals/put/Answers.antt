use Rattle.rex_ballot.proofs.Lists.{rising_with}
use Rattle.rex_ballot.proofs.proposals.Proposals.put.Goals as goal

pub invariant_of-self-2 : goal.invariant_of-self-2
invariant_of-self-2 c = rw c.in_ok-put.ensures.ok (rising_with c.self.inside.items.items c.args.proposal c.self.invariant)
