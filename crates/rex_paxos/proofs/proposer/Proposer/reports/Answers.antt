use Rattle.std.proofs.Common.{arith}
use Rattle.rex_paxos.proofs.proposer.Proposer.reports.Goals as goal

pub returns-clause-few : goal.returns-clause-few
returns-clause-few c = omega (arith, c.deref-reported.type_inv.1)
