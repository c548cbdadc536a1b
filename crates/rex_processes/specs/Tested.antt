-- What a process tests by itself, which has its own node alone, so that all that it knows stays deltas that run from the start.
use Rattle.std.specs.Prelude.{◌≡◌, ◌&&◌, ℕ, suc, false, true, is_some, List, [], ◌∷◌, ◌++◌, length, None, Some}
use Rattle.rex_syntax.specs.declared.service.Declarations.{Declarations}
use Rattle.rex_state.specs.Value.{StateValue}
use Rattle.rex_state.specs.Start.{start_of}
use Rattle.rex_state.specs.Machine.{run}
use Rattle.rex_cluster.specs.Records.{Proposal, known}
use Rattle.rex_cluster.specs.Quorum.{is_majority}
use Rattle.rex_cluster.specs.Node.{Content, Lead}
use Rattle.rex_cluster.specs.Node.Content.{Accepted as Voted, Chosen as Chose, Snapshot}
use Rattle.rex_cluster.specs.Node.Role.{Leads}
use Rattle.rex_cluster.specs.Calls.{best, own_reports, elect, receive}
use Rattle.rex_cluster.specs.Values.{Value, events_of, trace_of, spells, values_fit, service_of}
use Rattle.rex_cluster.specs.Lanes.{Here, CallHere}

-- all that a node knows fits
abbrev pub KnownFits : Declarations → Here → Type 0
KnownFits service x = values_fit service (known x.log) ≡ true

-- this value fits after all that it knows
abbrev pub FitsNext : Declarations → Here → Value → Type 0
FitsNext service x v = values_fit service (known x.log ++ v ∷ []) ≡ true

-- ---- messages

-- the value that a node has open fits after that, if it has one open
abbrev pub OpenFits : Declarations → Here → Type 0
OpenFits service x = (l : Lead Value) (p : Proposal Value) → x.role ≡ Leads l → l.proposal ≡ Some p → FitsNext service x p.value

-- a message may be heard that tells no state; one that tells what was chosen for the next instance, only where that fits; and one that tells that a value was accepted, only where the value fits that the node has open
abbrev pub MayBeHeard : Declarations → Here → Content Value → Type 0
MayBeHeard service x (Chose i v) = i ≡ suc (length (known x.log)) → FitsNext service x v
MayBeHeard service x (Voted b i) = OpenFits service x
MayBeHeard service x (Snapshot values) = ⊥
MayBeHeard service x _ = Unit {0}

-- then all that a node knows fits after the message, if it did before, and the node isn't a majority by itself
abbrev pub TestedMessagesFit : Type 0
TestedMessagesFit =
    (service : Declarations) (seed n m : ℕ) (d : CallHere) → is_majority n (m ∷ []) ≡ false → KnownFits service d.node
    → (from : ℕ) (c : Content Value) → MayBeHeard service d.node c → KnownFits service (receive n (service_of service seed) m from c d).node

-- ---- elections

-- so it does after such a node asked to lead
abbrev pub TestedElectionsFit : Type 0
TestedElectionsFit =
    (service : Declarations) (seed n m : ℕ) (d : CallHere) → is_majority n (m ∷ []) ≡ false → KnownFits service d.node
    → KnownFits service (elect n (service_of service seed) m d).node

-- of what a node accepted itself beyond what it knows, the value fits that it would adopt for the next instance, and there is none for the instance after that
pub record OwnReportsFit (service : Declarations) (x : Here) : Type 0 where
  pub next : (p : Proposal Value) → best (suc (length (known x.log))) (own_reports x.log) ≡ Some p → FitsNext service x p.value
  pub last : best (suc (suc (length (known x.log)))) (own_reports x.log) ≡ None

-- then so it does after any node asked to lead, also after one that is alone, which knows at once what it adopts
abbrev pub AloneElectionsFit : Type 0
AloneElectionsFit =
    (service : Declarations) (seed n m : ℕ) (d : CallHere) → KnownFits service d.node → OwnReportsFit service d.node
    → KnownFits service (elect n (service_of service seed) m d).node

-- ---- the test

-- after values that fit and lead to a state, a value fits exactly where it spells a delta whose events run from there
abbrev pub NextFitsWhereItRuns : Type 0
NextFitsWhereItRuns =
    (service : Declarations) (values : List Value) (v : Value) (s : StateValue) → values_fit service values ≡ true → run service (start_of service) (trace_of values) ≡ Some s
    → values_fit service (values ++ v ∷ []) ≡ (spells service v && is_some (run service s (events_of v)))
