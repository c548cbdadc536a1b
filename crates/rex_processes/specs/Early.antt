-- Replies that may be told before the leader has written down that their value is known: it is chosen.
use Rattle.std.specs.Prelude.{◌≡◌, ◌==◌, ◌&&◌, ◌<◌, ℕ, ℤ, Bool, not, List, [], ◌∷◌, ◌++◌, length, Option, Some, None, slice_get, if◌then◌else◌}
use Rattle.rex_syntax.specs.declared.service.Declarations.{Declarations}
use Rattle.rex_report.specs.declared.effect.Effect.{Effect}
use Rattle.rex_report.specs.declared.effect.Effect.TheVariants.{Released}
use Rattle.rex_cluster.specs.Records.{Proposal, known}
use Rattle.rex_cluster.specs.Quorum.{IsNode, is_in, is_majority}
use Rattle.rex_cluster.specs.Node.{Content, Lead, Message, Role, own_ballot}
use Rattle.rex_cluster.specs.Node.Content.{Accepted as Voted}
use Rattle.rex_cluster.specs.Node.Role.{Leads}
use Rattle.rex_cluster.specs.Invariant.{IsIn}
use Rattle.rex_cluster.specs.Values.{Value, replies_of, trace_of}
use Rattle.rex_cluster.specs.Lanes.{Here, node_trace}
use Rattle.rex_cluster.specs.World.{node_at}
use Rattle.rex_cluster.specs.Agreed.{known_at}
use Rattle.rex_cluster.specs.Stands.{Stands}
use Rattle.rex_cluster.specs.Releases.{Moment, IsAmong, IsLeader}
use Rattle.rex_processes.specs.Laws.{OfAllMoments}

-- ---- what a message would release

-- with a node's acceptance of a ballot's proposal for an instance, which wasn't counted yet, a majority accepted the open proposal: it is chosen
abbrev pub is_chosen_with : ℕ → Lead Value → ℕ → ℕ → ℕ → Proposal Value → Bool
is_chosen_with n l from b i p =
    (l.ballot == b) && ((p.instance == i) && (not (is_in from l.accepted_by) && is_majority n (l.accepted_by ++ from ∷ [])))

-- the replies of an active node's open proposal, behind the values that it knows, where it is chosen with that
abbrev pub replies_with : Declarations → ℕ → List Value → Lead Value → ℕ → ℕ → ℕ → Option (Proposal Value) → List Effect
replies_with service n before l from b i None = []
replies_with service n before l from b i (Some p) = if l.active && is_chosen_with n l from b i p then replies_of service before p.value else []

abbrev pub replies_to : Declarations → ℕ → List Value → ℕ → Content Value → Role Value → List Effect
replies_to service n before from (Voted b i) (Leads l) = replies_with service n before l from b i l.proposal
replies_to service n before from content role = []

-- the replies that a node would release if it heard a message
abbrev pub early_replies : Declarations → ℕ → Here → Message Value → List Effect
early_replies service n x message = replies_to service n (known x.log) message.from message.content x.role

-- ---- where they stand

-- a reply stands in the trace of each leader of a greater ballot than this, and in that of what each process knows that knows more values than so many
pub record StandsFrom (ballot done n : ℕ) (later : Moment) (client sequence : ℕ) (value : ℤ) : Type 0 where
  pub leaders : (q above : ℕ) → IsLeader later.world q above → ballot < above → Stands (node_trace (node_at later.world.nodes q)) client sequence value
  pub known : (q : ℕ) → IsNode n q → done < length (known_at later.world q) → Stands (trace_of (known_at later.world q)) client sequence value

-- so it is, at whatever moment, of each reply that a message that was sent would release at a process, whatever becomes of that process then
abbrev pub EarlyRepliesStand : Declarations → ℕ → List Moment → Type 0
EarlyRepliesStand service n run =
    (i j : ℕ) (early later : Moment) → slice_get run i ≡ Some early → slice_get run j ≡ Some later
    → (m : ℕ) (message : Message Value) → IsNode n m → IsIn message early.world.messages
    → (client sequence : ℕ) (value : ℤ) → IsAmong (Released client sequence value) (early_replies service n (node_at early.world.nodes m) message)
    → StandsFrom (own_ballot (node_at early.world.nodes m).role) (length (known_at early.world m)) n later client sequence value

abbrev pub ProcessesKeepEarly : Type 0
ProcessesKeepEarly = OfAllMoments EarlyRepliesStand
