-- Processes that are never told to write their state down: what their records are, what they send, and what each of them may be handed.
use Rattle.std.specs.Prelude.{◌≡◌, ◌≢◌, ℕ, ◌<◌, ◌≤◌, false, List, [], ◌∷◌, None}
use Rattle.rex_ballot.specs.Limits.{most_nodes}
use Rattle.rex_syntax.specs.declared.service.Declarations.{Declarations}
use Rattle.rex_state.specs.Value.{StateValue}
use Rattle.rex_cluster.specs.Records.{Rec, offset, base, held, known, has_old_base, HasKnown}
use Rattle.rex_cluster.specs.Records.Rec.{Promised, Accepted, Known, Checkpoint, Dropped, Transferred}
use Rattle.rex_cluster.specs.Quorum.{IsNode, node_of}
use Rattle.rex_cluster.specs.Node.{Content, Message}
use Rattle.rex_cluster.specs.Node.Content.{Prepare, Promise, Accept, Accepted as Voted, Nack}
use Rattle.rex_cluster.specs.Calls.{restart, start}
use Rattle.rex_cluster.specs.Values.{Value, service_of}
use Rattle.rex_cluster.specs.Lanes.{CallHere}
use Rattle.rex_cluster.specs.World.{World, node_at, logs, beginning}
use Rattle.rex_cluster.specs.Agreed.{base_state}
use Rattle.rex_cluster.specs.Invariant.{IsIn}
use Rattle.rex_cluster.specs.Ranges.{ContentFits, MessageFits}
use Rattle.rex_cluster.specs.Telling.{TellsNoState, TellNoState}
use Rattle.rex_safety.specs.Laws.{NumbersFit}
use Rattle.rex_processes.specs.Processes.{Task, Happening, OfTask, AreHonest, call_for, processes_after}
use Rattle.rex_processes.specs.Processes.Task.{Hear, Ask, Save}
use Rattle.rex_processes.specs.Tested.{MayBeHeard}

-- ---- records

-- no record is of a state, and none says that values were forgotten
abbrev pub IsPlain : {V S : Type 0} → List (Rec V S) → Type 0
IsPlain [] = Unit {0}
IsPlain (Promised b ∷ log) = IsPlain log
IsPlain (Accepted b i v ∷ log) = IsPlain log
IsPlain (Known i v ∷ log) = IsPlain log
IsPlain (Checkpoint version k s ∷ log) = ⊥
IsPlain (Dropped k ∷ log) = ⊥
IsPlain (Transferred values s ∷ log) = ⊥

-- no value was forgotten and no state stands for any: the node holds all that it knows, and has no base, in either version
pub record HoldsAll (log : List (Rec Value StateValue)) : Type 0 where
  pub no_offset : offset log ≡ 0
  pub no_base : base log ≡ 0
  pub all : held log ≡ known log
  pub no_state : base_state log ≡ None
  pub no_old : has_old_base log ≡ false

-- so it is of plain records that give values to instances from 1 on
abbrev pub PlainRecordsHoldAll : Type 0
PlainRecordsHoldAll = (log : List (Rec Value StateValue)) → IsPlain log → ((i : ℕ) (v : Value) → HasKnown i v log → 0 < i) → HoldsAll log

-- ---- one process

-- any task but to write the state down; with plain records there is nothing to forget
abbrev pub IsPlainTask : Task → Type 0
IsPlainTask (Save version) = ⊥
IsPlainTask _ = Unit {0}

-- a message that is heard tells no state
abbrev pub HearsNoState : Task → Type 0
HearsNoState (Hear x) = TellsNoState x.content
HearsNoState _ = Unit {0}

-- the numbers of a message that is heard are in their ranges
abbrev pub HeardFits : Task → Type 0
HeardFits (Hear x) = ContentFits x.content
HeardFits _ = Unit {0}

-- plain records stay plain whatever such a task the process does, and wherever an append fails meanwhile
abbrev pub RecordsStayPlain : Type 0
RecordsStayPlain =
    (service : Declarations) (seed n m : ℕ) (task : Task) (d : CallHere) → IsPlainTask task → HearsNoState task → IsPlain d.node.log
    → IsPlain (call_for service seed n m task d).node.log

-- with plain records nothing is appended where the process comes up
abbrev pub PlainRecordsAreKept : Type 0
PlainRecordsAreKept = (service : Declarations) (seed m : ℕ) (d : CallHere) → IsPlain d.node.log → start (service_of service seed) m d ≡ restart m d

-- with plain records no message that it sends tells a state, whatever it does, where a message that it hears has its numbers in their ranges
abbrev pub PlainRecordsTellNoState : Type 0
PlainRecordsTellNoState =
    (service : Declarations) (seed n m : ℕ) (task : Task) (d : CallHere) → HeardFits task → IsPlain d.node.log → TellNoState d.sends
    → TellNoState (call_for service seed n m task d).sends

-- ---- all processes

-- so is each task, at the process of this number
abbrev pub EachTask : (ℕ → Task → Type 0) → List (ℕ × Happening) → Type 0
EachTask P [] = Unit {0}
EachTask P (x ∷ xs) = OfTask (P x.0) x.1 × EachTask P xs

-- no process is ever told to write its state down
abbrev pub ArePlain : List (ℕ × Happening) → Type 0
ArePlain xs = EachTask (λ m task. IsPlainTask task) xs

-- each process' records are plain, and hold all that it knows; and no message that was ever sent tells a state
pub record IsStateless (n : ℕ) (w : World) : Type 0 where
  pub records : (m : ℕ) → IsPlain (logs w m)
  pub hold : (m : ℕ) → IsNode n m → HoldsAll (logs w m)
  pub messages : TellNoState w.messages

abbrev pub ProcessesAreStateless : Type 0
ProcessesAreStateless =
    (service : Declarations) (seed n : ℕ) (xs : List (ℕ × Happening)) → n ≤ most_nodes → AreHonest service seed n (beginning n) xs
    → ArePlain xs → IsStateless n (processes_after service seed n xs)

-- ---- what a process may be handed

-- a process asks another one that is there, and hears no message of its own
abbrev pub NamesAnother : ℕ → ℕ → Task → Type 0
NamesAnother n m (Ask other) = IsNode n other × (m ≢ other)
NamesAnother n m (Hear x) = m ≢ x.from
NamesAnother n m _ = Unit {0}

-- where each does so, the numbers of each process' records and role, and of each message, are in their ranges
abbrev pub ProcessesStayInRange : Type 0
ProcessesStayInRange =
    (service : Declarations) (seed n : ℕ) (xs : List (ℕ × Happening)) → n ≤ most_nodes → AreHonest service seed n (beginning n) xs
    → EachTask (NamesAnother n) xs → NumbersFit n (processes_after service seed n xs)

-- from one process to another: who asks in a ballot does so in one of its own, and who answers does so in one of the process that asked
abbrev pub HasAskersBallot : {V : Type 0} → ℕ → ℕ → Content V → Type 0
HasAskersBallot from to (Prepare b first) = node_of b ≡ from
HasAskersBallot from to (Promise b ps) = node_of b ≡ to
HasAskersBallot from to (Accept b i v) = node_of b ≡ from
HasAskersBallot from to (Voted b i) = node_of b ≡ to
HasAskersBallot from to (Nack b p) = node_of b ≡ to
HasAskersBallot from to _ = Unit {0}

-- a message goes from one process to another one, has its numbers in their ranges, tells no state, and has the ballot of the process that asked
pub record IsGoodMessage (n : ℕ) (x : Message Value) : Type 0 where
  pub fits : MessageFits n x
  pub asker : HasAskersBallot x.from x.to x.content
  pub stateless : TellsNoState x.content

-- each message that was ever sent is so, and may be heard by each process, whomever it was sent to
pub record MessagesAreGood (service : Declarations) (n : ℕ) (w : World) : Type 0 where
  pub good : (x : Message Value) → IsIn x w.messages → IsGoodMessage n x
  pub heard : (m : ℕ) (x : Message Value) → IsNode n m → IsIn x w.messages → MayBeHeard service (node_at w.nodes m) x.content

-- so tests of these refuse no honest message
abbrev pub TestsRefuseNone : Type 0
TestsRefuseNone =
    (service : Declarations) (seed n : ℕ) (xs : List (ℕ × Happening)) → n ≤ most_nodes → AreHonest service seed n (beginning n) xs
    → ArePlain xs → EachTask (NamesAnother n) xs → MessagesAreGood service n (processes_after service seed n xs)
