-- What holds of every world to which schedule lines and events that nodes are handed lead.
use Rattle.std.specs.Prelude.{◌≡◌, ℕ, ◌+◌, ◌≤◌, ℤ, true, List, [], ◌∷◌, ◌++◌, length, Some, slice_get}
use Rattle.std.specs.List.{All}
use Rattle.rex_ballot.specs.Limits.{most_nodes}
use Rattle.rex_syntax.specs.declared.request.Request.{Request}
use Rattle.rex_syntax.specs.declared.service.Declarations.{Declarations}
use Rattle.rex_syntax.specs.Service.{IsService}
use Rattle.rex_syntax.specs.Check.{IsChecked}
use Rattle.rex_event.specs.declared.event.Event.{Event}
use Rattle.rex_event.specs.declared.event.TheConstants.{CLIENTS}
use Rattle.rex_report.specs.declared.effect.Effect.TheVariants.{Released}
use Rattle.rex_schedule.specs.declared.scenario.ScheduleLine.TheVariants.{ReadVariable}
use Rattle.rex_schedule.specs.Fits.{IsNode, RequestFits}
use Rattle.rex_cluster.specs.World.{World, node_at, beginning, steps_of}
use Rattle.rex_cluster.specs.Agreed.{agreed, trace_at}
use Rattle.rex_cluster.specs.Values.{Value, trace_of, service_of}
use Rattle.rex_safety.specs.Once.{IsOnce}
use Rattle.rex_safety.specs.Kept.{IsKept}
use Rattle.rex_safety.specs.Laws.{HasOneValue, KnowsAgreed, OnlyGrows, IsOneList, AgreedRuns, BaseIsRight, AgreedIsGiven, HoldsAgreed, TransfersAreRight, ReleasesStand, ReleasesAreAgreed, CutsGoFirst, CausesAreLeast, NextFits, ValuesAreBytes, ValuesAreShort, NodesAreKept, ActsRightly, NumbersFit}
use Rattle.rex_safety.specs.Rules.{Rules}
use Rattle.rex_cluster.specs.Node.{Lead}
use Rattle.rex_cluster.specs.Node.Role.{Leads}
use Rattle.rex_cluster.specs.Stands.{Stands}
use Rattle.rex_cluster.specs.Releases.{Moment, IsAmong, step_moments}
use Rattle.rex_safety.specs.Seeing.{IsTold, ReportsWhatIsTold, TellsAgreed}
use Rattle.rex_cluster.specs.Takes.{Doing, DoingFits, BeginsInRange, take, does, after_doings}
use Rattle.rex_cluster.specs.Takes.Doing.{Does, Takes}

-- the world after doings, from the beginning
abbrev pub world_after_doings : Declarations → List Request → ℕ → ℕ → List Doing → World
world_after_doings service requests seed n doings = after_doings service requests seed n (beginning n) doings

-- ---- what is kept

-- a kept world of which a node is handed an event is kept
abbrev pub TakesAreKept : Type 0
TakesAreKept =
    (service : Declarations) (seed n : ℕ) (w : World) (m : ℕ) (e : Event) → n ≤ most_nodes → IsService service → IsChecked service → IsNode n m → BeginsInRange e
    → IsKept service seed n w → IsKept service seed n (take service w m e)

-- so is one after any doings that name what is there
abbrev pub DoingsAreKept : Type 0
DoingsAreKept =
    (service : Declarations) (requests : List Request) (seed n : ℕ) (w : World) (doings : List Doing) → n ≤ most_nodes → IsService service → IsChecked service → All (RequestFits service) requests
    → All (DoingFits n (length requests) service.lanes) doings → IsKept service seed n w → IsKept service seed n (after_doings service requests seed n w doings)

-- ---- what holds after any doings

-- a fact of the world after any doings, for at most nine nodes
abbrev pub AfterAnyDoings : ((service : Declarations) (n : ℕ) (w : World) → Type 0) → Type 0
AfterAnyDoings P = (service : Declarations) (requests : List Request) (seed n : ℕ) (doings : List Doing) → n ≤ most_nodes → P service n (world_after_doings service requests seed n doings)

-- a fact of the worlds at two moments, the first of which is the earlier one or the same
abbrev pub AtTwoMomentsOfDoings : ((service : Declarations) (n : ℕ) (earlier later : World) → Type 0) → Type 0
AtTwoMomentsOfDoings P =
    (service : Declarations) (requests : List Request) (seed n : ℕ) (doings more : List Doing) → n ≤ most_nodes
    → P service n (world_after_doings service requests seed n doings) (world_after_doings service requests seed n (doings ++ more))

-- two values that are chosen for one instance are equal
abbrev pub DoingsAgree : Type 0
DoingsAgree = AfterAnyDoings HasOneValue

-- what each node knows begins the agreed list
abbrev pub DoingsBeginAgreed : Type 0
DoingsBeginAgreed = AfterAnyDoings KnowsAgreed

-- what a node knows only grows, and so does the agreed list
abbrev pub DoingsOnlyGrow : Type 0
DoingsOnlyGrow = AtTwoMomentsOfDoings OnlyGrows

-- of what two nodes know, each at its moment, one begins the other
abbrev pub DoingsGivePrefixes : Type 0
DoingsGivePrefixes = AtTwoMomentsOfDoings IsOneList

-- each front of the agreed list runs from the start on one thread
abbrev pub DoingsRun : Type 0
DoingsRun = AfterAnyDoings AgreedRuns

-- a checkpoint is of the state to which the known deltas up to it run
abbrev pub DoingsKeepBases : Type 0
DoingsKeepBases = AfterAnyDoings BaseIsRight

-- the agreed list is what records give
abbrev pub DoingsGiveAgreed : Type 0
DoingsGiveAgreed = AfterAnyDoings AgreedIsGiven

-- what a node holds are the agreed values after its offset
abbrev pub DoingsHoldAgreed : Type 0
DoingsHoldAgreed = AfterAnyDoings HoldsAgreed

-- states that are told or taken over are those after the first agreed values
abbrev pub DoingsTransferRightly : Type 0
DoingsTransferRightly = AfterAnyDoings TransfersAreRight

-- each request has at most one begin and at most one reply in the agreed trace
abbrev pub DoingsHappenOnce : Type 0
DoingsHappenOnce =
    (service : Declarations) (requests : List Request) (seed n : ℕ) (doings : List Doing) → n ≤ most_nodes → IsService service → IsChecked service
    → IsOnce (trace_of (agreed (world_after_doings service requests seed n doings)))

-- the events below a consistent cut of a front of the agreed trace go first
abbrev pub DoingsLetCutsGoFirst : Type 0
DoingsLetCutsGoFirst = AfterAnyDoings CutsGoFirst

-- the causes of each agreed delta are the least
abbrev pub DoingsKeepCausesLeast : Type 0
DoingsKeepCausesLeast = AfterAnyDoings CausesAreLeast

-- what nodes know fits, and so does each value that may be known next
abbrev pub DoingsFitNext : Type 0
DoingsFitNext = AfterAnyDoings NextFits

-- values are bytes, and none is too long
abbrev pub DoingsKeepBytes : Type 0
DoingsKeepBytes = AfterAnyDoings ValuesAreBytes

abbrev pub DoingsKeepShort : Type 0
DoingsKeepShort = AfterAnyDoings ValuesAreShort

-- the rules by which Paxos is explained
abbrev pub DoingsKeepRules : Type 0
DoingsKeepRules =
    (service : Declarations) (requests : List Request) (seed n : ℕ) (doings : List Doing) → n ≤ most_nodes
    → Rules n (service_of service seed) (world_after_doings service requests seed n doings)

-- nodes are kept
abbrev pub DoingsKeepNodes : Type 0
DoingsKeepNodes =
    (service : Declarations) (requests : List Request) (seed n : ℕ) (doings : List Doing) → n ≤ most_nodes
    → NodesAreKept service seed n (world_after_doings service requests seed n doings)

-- with a checked service, requests that fit it, and doings that name what is there: the known deltas and then the live events of an active node run from the start
abbrev pub DoingsRunActives : Type 0
DoingsRunActives =
    (service : Declarations) (requests : List Request) (seed n : ℕ) (doings : List Doing) → n ≤ most_nodes → IsService service → IsChecked service → All (RequestFits service) requests → All (DoingFits n (length requests) service.lanes) doings
    → (m : ℕ) (l : Lead Value) → (node_at (world_after_doings service requests seed n doings).nodes m).role ≡ Leads l → l.active ≡ true
    → ActsRightly service (node_at (world_after_doings service requests seed n doings).nodes m) l

-- and numbers are in their ranges
abbrev pub DoingsKeepNumbers : Type 0
DoingsKeepNumbers =
    (service : Declarations) (requests : List Request) (seed n : ℕ) (doings : List Doing) → n ≤ most_nodes → IsService service → IsChecked service → All (RequestFits service) requests → All (DoingFits n (length requests) service.lanes) doings
    → NumbersFit n (world_after_doings service requests seed n doings)

-- ---- replies

-- the moments of a doing: those of a schedule line, or the one at which a node is handed an event, which releases nothing and is after so many lines
abbrev pub moments_of : Declarations → List Request → ℕ → ℕ → World → Doing → List Moment
moments_of service requests seed n w (Does line) = step_moments service requests seed n (w.done + 1) w (steps_of w line)
moments_of service requests seed n w (Takes m e) = (record { line = w.done; node = m; world = take service w m e; effects = [] }) ∷ []

-- the moments of doings, one doing after the other
abbrev pub moments_of_doings : Declarations → List Request → ℕ → ℕ → World → List Doing → List Moment
moments_of_doings service requests seed n w [] = []
moments_of_doings service requests seed n w (x ∷ rest) =
    moments_of service requests seed n w x ++ moments_of_doings service requests seed n (does service requests seed n w x) rest

-- with a checked service and requests that fit it, each released reply stands in the trace of every later leader
abbrev pub DoingsKeepReplies : Type 0
DoingsKeepReplies =
    (service : Declarations) (requests : List Request) (seed n : ℕ) (doings : List Doing) → n ≤ most_nodes → IsService service → IsChecked service → All (RequestFits service) requests
    → ReleasesStand (moments_of_doings service requests seed n (beginning n) doings)

-- and it stands in the agreed trace from then on
abbrev pub DoingsKeepAgreed : Type 0
DoingsKeepAgreed =
    (service : Declarations) (requests : List Request) (seed n : ℕ) (doings : List Doing) → n ≤ most_nodes → IsService service → IsChecked service → All (RequestFits service) requests
    → ReleasesAreAgreed (moments_of_doings service requests seed n (beginning n) doings)

-- ---- reads

-- a line that reads reports what its client is told, and no other value
abbrev pub DoingsReportReads : Type 0
DoingsReportReads = AfterAnyDoings ReportsWhatIsTold

-- what is told is the variable's value after the first so many agreed deltas
abbrev pub DoingsTellAgreed : Type 0
DoingsTellAgreed = AfterAnyDoings TellsAgreed

-- the number of deltas that a client is told never falls
abbrev pub DoingsNeverGoBack : Type 0
DoingsNeverGoBack =
    (service : Declarations) (requests : List Request) (seed n : ℕ) (doings more : List Doing) → n ≤ most_nodes → (m client variable : ℕ) (value : ℤ) (number : ℕ) → client ≤ CLIENTS
    → IsTold service (world_after_doings service requests seed n doings) m client variable value number
    → (m_later variable_later : ℕ) (value_later : ℤ) (number_later : ℕ)
    → IsTold service (world_after_doings service requests seed n (doings ++ Does (ReadVariable m client variable) ∷ more)) m_later client variable_later value_later number_later → number ≤ number_later

-- with a checked service and requests that fit it: each reply that was released to a client at one of their moments stands in the trace of as many agreed deltas as the client is told where it reads then
abbrev pub DoingsShowReplies : Type 0
DoingsShowReplies =
    (service : Declarations) (requests : List Request) (seed n : ℕ) (doings : List Doing) → n ≤ most_nodes → IsService service → IsChecked service → All (RequestFits service) requests
    → (i : ℕ) (release : Moment) → slice_get (moments_of_doings service requests seed n (beginning n) doings) i ≡ Some release
    → (client sequence : ℕ) (reply : ℤ) → client ≤ CLIENTS → IsAmong (Released client sequence reply) release.effects
    → (m variable : ℕ) (value : ℤ) (number : ℕ) → IsTold service (world_after_doings service requests seed n doings) m client variable value number
    → Stands (trace_at (world_after_doings service requests seed n doings) number) client sequence reply
