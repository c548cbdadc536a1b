-- Nodes, ballots and instances, and the ballot that a node takes next.
use Rattle.std.specs.Prelude.{◌≡◌, ℕ, ◌+◌, ◌-◌, ◌*◌, ◌/◌, ◌%◌, ◌<◌, ◌≤◌, Bool, ◌&&◌, nat_le, Option, Some, None, if◌then◌else◌}
use Rattle.rex_ballot.specs.Limits.{most_nodes}
use Rattle.rex_ballot.specs.declared.ballots.TheConstants.{ROUNDS, ROUND_BALLOTS, INSTANCES}

-- nodes are numbered from 1
pub record IsNode (node : ℕ) : Type 0 where
  pub first : 1 ≤ node
  pub last : node ≤ most_nodes

-- a ballot is so many times a round, and a node
abbrev pub ballot_of : ℕ → ℕ → ℕ
ballot_of round node = ROUND_BALLOTS * round + node

abbrev pub round_of : ℕ → ℕ
round_of ballot = ballot / ROUND_BALLOTS

abbrev pub node_of : ℕ → ℕ
node_of ballot = ballot % ROUND_BALLOTS

-- rounds are numbered from 1, and there can be such a round and such a node
pub record IsBallot (ballot : ℕ) : Type 0 where
  pub first : 1 ≤ round_of ballot
  pub last : round_of ballot ≤ ROUNDS
  pub node : IsNode (node_of ballot)

-- instances are numbered from 1
pub record IsInstance (instance : ℕ) : Type 0 where
  pub first : 1 ≤ instance
  pub last : instance ≤ INSTANCES

-- ---- the same as tests

abbrev pub is_node : ℕ → Bool
is_node n = nat_le 1 n && nat_le n most_nodes

abbrev pub is_ballot : ℕ → Bool
is_ballot n = nat_le 1 (round_of n) && nat_le (round_of n) ROUNDS && is_node (node_of n)

abbrev pub is_instance : ℕ → Bool
is_instance n = nat_le 1 n && nat_le n INSTANCES

-- ---- the next ballot

-- a ballot of the node above a promise, and no other of its ballots above it is less
pub record IsLeastAbove (node promised ballot : ℕ) : Type 0 where
  pub is : IsBallot ballot
  pub own : node_of ballot ≡ node
  pub above : promised < ballot
  pub least : (b : ℕ) → IsBallot b → node_of b ≡ node → promised < b → ballot ≤ b

-- no ballot of the node is above the promise
pub record NoneAbove (node promised : ℕ) : Type 0 where
  pub spent : (b : ℕ) → IsBallot b → node_of b ≡ node → b ≤ promised

-- the least round in which the node's ballot is above the promise
abbrev pub round_above : ℕ → ℕ → ℕ
round_above node promised = (promised - node) / ROUND_BALLOTS + 1

-- its ballot in that round
abbrev pub ballot_above : ℕ → ℕ → ℕ
ballot_above node promised = ballot_of (round_above node promised) node

-- the same, unless that round is past the last
abbrev pub ballot_left : ℕ → ℕ → Option ℕ
ballot_left node promised = if nat_le (round_above node promised) ROUNDS then Some (ballot_above node promised) else None
