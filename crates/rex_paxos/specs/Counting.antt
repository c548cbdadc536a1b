-- Nodes that are counted, and majorities of them.
use Rattle.std.specs.Prelude.{ℕ, ◌*◌, ◌≤◌, ◌==◌, Bool, List, nat_lt, nat_eq, if◌then◌else◌}
use Rattle.std.specs.List.{All, IsDistinct, list_any}
use Rattle.rex_paxos.specs.declared.answers.Count.{Count}
use Rattle.rex_paxos.specs.declared.answers.Count.TheVariants as count
use Rattle.rex_paxos.specs.declared.answers.Vote.{Vote}
use Rattle.rex_paxos.specs.declared.answers.Vote.TheVariants as vote

-- a node is one of so many, which are numbered from 1
pub record IsOneOf (nodes node : ℕ) : Type 0 where
  pub first : 1 ≤ node
  pub last : node ≤ nodes

-- each counted node is one of so many, and no node is counted twice
pub record AreCounted (nodes : ℕ) (counted : List ℕ) : Type 0 where
  pub distinct : IsDistinct nat_eq counted
  pub there : All (IsOneOf nodes) counted

-- a node was counted
abbrev pub is_counted : ℕ → List ℕ → Bool
is_counted node counted = list_any (λ (n : ℕ). n == node) counted

-- a majority is more than half of the nodes
abbrev pub is_majority : ℕ → ℕ → Bool
is_majority nodes have = nat_lt nodes (2 * have)

-- what is answered where so many were counted
abbrev pub count_of : ℕ → ℕ → Count
count_of nodes have = if is_majority nodes have then count.Quorum else count.NotYet have

-- the same as the answer to a message that was counted
abbrev pub vote_of : Count → Vote
vote_of count.Quorum = vote.Quorum
vote_of (count.NotYet have) = vote.NotYet have
