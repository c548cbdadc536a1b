use Rattle.std.proofs.Common.{rules, ltb}
use Rattle.std.proofs.lemmas.List.Sorted.{IsPartitionPoint-from_clause}
use Rattle.rex_ballot.specs.declared.proposal.Proposal.{Proposal}
use Rattle.rex_ballot.proofs.Places.{length-partitioned, partitioned}
use Rattle.rex_ballot.proofs.proposals.place_of.Goals as goal

pub returns-clause-place : goal.returns-clause-place
returns-clause-place c =
    let ps = c.args.proposals.now in
    let test = λ (p : Proposal). ltb p.instance c.args.instance in
    length-partitioned test ps c.partition_point.result c.partition_point.ensures.bound
    (IsPartitionPoint-from_clause test ps c.partition_point.result c.partition_point.ensures.partitioned (partitioned 0 c.args.instance ps c.requires) (λ a r f k. search rules))
