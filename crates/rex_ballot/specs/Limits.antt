-- The limits of agreement.
use Rattle.std.specs.Prelude.{ℕ}
use Rattle.rex_ballot.specs.declared.ballots.TheConstants.{NODES}

-- the most nodes
abbrev pub most_nodes : ℕ
most_nodes = NODES
