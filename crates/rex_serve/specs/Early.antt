-- Replies that processes of a cluster tell before their leader has kept that their value is known.
use Rattle.std.specs.Prelude.{◌≡◌, ◌<◌, ◌≤◌, ℕ, ℤ, true, List, [], length, Some, slice_get}
use Rattle.rex_ballot.specs.Limits.{most_nodes}
use Rattle.rex_syntax.specs.declared.service.Declarations.{Declarations}
use Rattle.rex_syntax.specs.Service.{IsService}
use Rattle.rex_syntax.specs.Check.{IsChecked}
use Rattle.rex_report.specs.declared.effect.Effect.TheVariants.{Released}
use Rattle.rex_msg.specs.declared.message.Message.{Message}
use Rattle.rex_log.specs.Messages.{message_in}
use Rattle.rex_cluster.specs.Records.{known}
use Rattle.rex_cluster.specs.Quorum.{IsNode}
use Rattle.rex_cluster.specs.Node.{own_ballot}
use Rattle.rex_cluster.specs.Invariant.{IsIn}
use Rattle.rex_cluster.specs.Values.{trace_of}
use Rattle.rex_cluster.specs.Lanes.{node_trace}
use Rattle.rex_cluster.specs.Releases.{IsAmong}
use Rattle.rex_cluster.specs.Stands.{Stands}
use Rattle.rex_processes.specs.Early.{early_replies}
use Rattle.rex_process.specs.Process.{ProcessValue, here}
use Rattle.rex_serve.specs.Cluster.{Cluster, Instant, Transition, AllMayHappen, beginning, instants}
use Rattle.rex_serve.specs.Cluster.Member.{Runs}
use Rattle.rex_serve.specs.Laws.{IsLeading, known_in}

module _ {K : Type 0} (records : K → List (List ℕ)) (faults : K → ℕ) where
  -- a process of a cluster is up, and would release this reply if it heard a message that was told
  pub record WouldRelease (c : Cluster K) (m : ℕ) (p : ProcessValue K) (client sequence : ℕ) (value : ℤ) : Type 0 where
    pub runs : c.members m ≡ Runs p
    pub up : p.node.up ≡ true
    pub message : Message
    pub told : IsIn message c.told
    pub among : IsAmong (Released client sequence value) (early_replies p.service p.node.nodes (here records p) (message_in [] message))

  -- a reply stands in the trace of each leader of a greater ballot than this, and in that of what each process knows that knows more values than so many
  pub record StandsFrom (service : Declarations) (ballot done n : ℕ) (c : Cluster K) (client sequence : ℕ) (value : ℤ) : Type 0 where
    pub leaders : (q above : ℕ) (l : ProcessValue K) → IsNode n q → c.members q ≡ Runs l → IsLeading records faults l above → ballot < above
        → Stands (node_trace (here records l)) client sequence value
    pub known : (q : ℕ) → IsNode n q → done < length (known_in records faults service c q) → Stands (trace_of (known_in records faults service c q)) client sequence value

  -- so it is, at whatever instant, of each reply that a process would release, whatever becomes of that process then
  abbrev pub EarlyRepliesStand : Declarations → ℕ → List (Instant K) → Type 0
  EarlyRepliesStand service n run =
      (i j : ℕ) (early later : Instant K) → slice_get run i ≡ Some early → slice_get run j ≡ Some later
      → (m : ℕ) (p : ProcessValue K) → IsNode n m → (client sequence : ℕ) (value : ℤ) → WouldRelease early.cluster m p client sequence value
      → StandsFrom service (own_ballot (here records p).role) (length (known (here records p).log)) n later.cluster client sequence value

  -- with a checked service it is so of whatever happens to them
  abbrev pub ClustersKeepEarly : Type 0
  ClustersKeepEarly =
      (service : Declarations) (seed n : ℕ) (ts : List (ℕ × Transition K)) → n ≤ most_nodes → IsService service → IsChecked service
      → AllMayHappen records faults service seed n beginning ts → EarlyRepliesStand service n (instants records faults beginning ts)
