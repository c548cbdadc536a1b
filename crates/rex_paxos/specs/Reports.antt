-- The best of the proposals reported for an instance.
use Rattle.std.specs.Prelude.{◌≡◌, ◌≢◌, ◌<◌, ◌≤◌, ◌==◌, ◌&&◌, ℕ, List, ◌∷◌, ◌++◌, max, filter, find, fold, Option}
use Rattle.std.specs.List.{All}
use Rattle.rex_ballot.specs.declared.proposal.Proposal.{Proposal}

-- a report for the instance that no other one beats: none reported for it has a greater ballot, and none before it an equal one
pub record IsBest (instance : ℕ) (reported : List Proposal) (best : Proposal) : Type 0 where
  pub before : List Proposal
  pub after : List Proposal
  pub stands : reported ≡ before ++ best ∷ after
  pub about : best.instance ≡ instance
  pub first : All (λ (p : Proposal). p.instance ≡ instance → p.ballot < best.ballot) before
  pub greatest : All (λ (p : Proposal). p.instance ≡ instance → p.ballot ≤ best.ballot) after

-- nothing was reported for the instance
abbrev pub HasNone : ℕ → List Proposal → Type 0
HasNone instance reported = All (λ (p : Proposal). p.instance ≢ instance) reported

-- the value of the best report
pub record IsBestValue (instance : ℕ) (reported : List Proposal) (value : List ℕ) : Type 0 where
  pub best : Proposal
  pub is : IsBest instance reported best
  pub has : value ≡ best.value

-- ---- the same as a function

-- the greatest ballot of the reports for an instance
abbrev pub greatest_ballot : ℕ → List Proposal → ℕ
greatest_ballot instance reported = fold (λ (greatest : ℕ) (p : Proposal). max greatest p.ballot) 0 (filter (λ (p : Proposal). p.instance == instance) reported)

-- the first report for the instance that has it
abbrev pub best_for : ℕ → List Proposal → Option Proposal
best_for instance reported = find (λ (p : Proposal). p.instance == instance && p.ballot == greatest_ballot instance reported) reported
