-- Why two quorums agree, and which report is taken.
use Rattle.std.specs.Prelude.{◌≡◌, ℕ, true, List, length}
use Rattle.std.specs.List.{Contains}
use Rattle.std.specs.Option.{MatchOption}
use Rattle.rex_ballot.specs.declared.proposal.Proposal.{Proposal}
use Rattle.rex_paxos.specs.Counting.{AreCounted, is_majority}
use Rattle.rex_paxos.specs.Reports.{IsBest, HasNone, best_for}

-- a node that is in both lists
pub record Meet (first second : List ℕ) : Type 0 where
  pub node : ℕ
  pub in_first : Contains first node
  pub in_second : Contains second node

-- two majorities of the same nodes share one
pub record MajoritiesMeet : Type 0 where
  pub meet : (nodes : ℕ) (first second : List ℕ) → AreCounted nodes first → AreCounted nodes second → is_majority nodes (length first) ≡ true → is_majority nodes (length second) ≡ true → Meet first second

-- the report that is taken is the best one for the instance, and there is no other best one
pub record BestReports : Type 0 where
  pub is : (instance : ℕ) (reported : List Proposal) → MatchOption (best_for instance reported) (HasNone instance reported) (IsBest instance reported)
  pub only : (instance : ℕ) (reported : List Proposal) (first second : Proposal) → IsBest instance reported first → IsBest instance reported second → first ≡ second
