-- What holds of every run of processes.
use Rattle.std.specs.Prelude.{◌≡◌, ℕ, ℤ, ◌≤◌, List, ◌++◌, length}
use Rattle.rex_ballot.specs.Limits.{most_nodes}
use Rattle.rex_syntax.specs.declared.service.Declarations.{Declarations}
use Rattle.rex_syntax.specs.Service.{IsService}
use Rattle.rex_syntax.specs.Check.{IsChecked}
use Rattle.rex_reads.specs.declared.seen.Read.TheVariants as answer
use Rattle.rex_cluster.specs.World.{World, node_at, beginning}
use Rattle.rex_cluster.specs.Values.{trace_of, state_after}
use Rattle.rex_cluster.specs.Reading.{read_at, value_in}
use Rattle.rex_cluster.specs.Agreed.{agreed, trace_at}
use Rattle.rex_cluster.specs.Releases.{Moment}
use Rattle.rex_safety.specs.Once.{IsOnce}
use Rattle.rex_safety.specs.Laws.{HasOneValue, KnowsAgreed, OnlyGrows, IsOneList, AgreedRuns, NextFits, ReleasesStand, ReleasesAreAgreed}
use Rattle.rex_processes.specs.Processes.{Happening, AreHonest, moments_of_happenings, processes_after}

-- a fact of what at most nine processes come to, whatever happens to them that is honest
abbrev pub AfterAnyHappenings : ((service : Declarations) (n : ℕ) (w : World) → Type 0) → Type 0
AfterAnyHappenings P =
    (service : Declarations) (seed n : ℕ) (xs : List (ℕ × Happening)) → n ≤ most_nodes → AreHonest service seed n (beginning n) xs
    → P service n (processes_after service seed n xs)

-- a fact of what they come to at two moments, the first of which is the earlier one or the same
abbrev pub AtTwoMomentsOfHappenings : ((service : Declarations) (n : ℕ) (earlier later : World) → Type 0) → Type 0
AtTwoMomentsOfHappenings P =
    (service : Declarations) (seed n : ℕ) (xs more : List (ℕ × Happening)) → n ≤ most_nodes → AreHonest service seed n (beginning n) (xs ++ more)
    → P service n (processes_after service seed n xs) (processes_after service seed n (xs ++ more))

-- ---- what they agree on

-- two values that are chosen for one instance are equal
abbrev pub ProcessesAgree : Type 0
ProcessesAgree = AfterAnyHappenings HasOneValue

-- what each process knows begins the agreed list
abbrev pub ProcessesBeginAgreed : Type 0
ProcessesBeginAgreed = AfterAnyHappenings KnowsAgreed

-- what a process knows only grows, and so does the agreed list
abbrev pub ProcessesOnlyGrow : Type 0
ProcessesOnlyGrow = AtTwoMomentsOfHappenings OnlyGrows

-- of what two processes know, each at its moment, one list begins the other
abbrev pub ProcessesGivePrefixes : Type 0
ProcessesGivePrefixes = AtTwoMomentsOfHappenings IsOneList

-- each front of the agreed list runs from the start on one thread
abbrev pub ProcessesRun : Type 0
ProcessesRun = AfterAnyHappenings AgreedRuns

-- what each process knows fits, and so does each value that it may know next
abbrev pub ProcessesFitNext : Type 0
ProcessesFitNext = AfterAnyHappenings NextFits

-- with a checked service, each request has at most one begin and at most one reply in the agreed trace
abbrev pub ProcessesHappenOnce : Type 0
ProcessesHappenOnce = AfterAnyHappenings (λ service n w. IsService service → IsChecked service → IsOnce (trace_of (agreed w)))

-- ---- replies

-- a fact of the moments of a run of at most nine processes with a checked service
abbrev pub OfAllMoments : (Declarations → ℕ → List Moment → Type 0) → Type 0
OfAllMoments P =
    (service : Declarations) (seed n : ℕ) (xs : List (ℕ × Happening)) → n ≤ most_nodes → IsService service → IsChecked service → AreHonest service seed n (beginning n) xs
    → P service n (moments_of_happenings service seed n (beginning n) xs)

-- each released reply stands in the trace of every later leader, which is its known deltas and then its live events
abbrev pub ProcessesKeepReplies : Type 0
ProcessesKeepReplies = OfAllMoments (λ service n run. ReleasesStand run)

-- and it stands in the agreed trace from then on
abbrev pub ProcessesKeepAgreed : Type 0
ProcessesKeepAgreed = OfAllMoments (λ service n run. ReleasesAreAgreed run)

-- ---- reads

-- what a reader is told is the variable's value after the first so many agreed values, of which there are as many, and which are no fewer than the reader has seen
pub record IsAgreedRead (service : Declarations) (w : World) (variable seen : ℕ) (value : ℤ) (number : ℕ) : Type 0 where
  pub forward : seen ≤ number
  pub there : number ≤ length (agreed w)
  pub shown : value ≡ value_in (state_after service (trace_at w number)) variable

-- so is whatever a process tells a reader
abbrev pub TellsReadersAgreed : Declarations → ℕ → World → Type 0
TellsReadersAgreed service n w =
    (m variable seen : ℕ) (value : ℤ) (number : ℕ) → read_at service (node_at w.nodes m) variable seen ≡ answer.Value value number
    → IsAgreedRead service w variable seen value number

abbrev pub ProcessesTellAgreed : Type 0
ProcessesTellAgreed = AfterAnyHappenings TellsReadersAgreed
