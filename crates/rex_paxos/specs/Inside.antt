-- A proposer's fields as its value.
use Rattle.rex_paxos.specs.declared.proposer.Proposer.TheInside.{Inside}
use Rattle.rex_paxos.specs.Proposer.{ProposerValue, CountsOnce}

-- the fields, with lists for the collections
abbrev pub value_of : Inside → ProposerValue
value_of p = record {
  nodes = p.nodes;
  ballot = p.ballot;
  promised = p.promised.items;
  reported = p.reported.items;
  open_instance = p.open_instance;
  accepted = p.accepted.items;
}

-- the ballot is of one of the nodes, and no node is counted twice
abbrev pub KeepsCounts : Inside → Type 0
KeepsCounts p = CountsOnce (value_of p)
