-- A cluster of processes that answer frames: what each of them is, and what may happen to them.
use Rattle.std.specs.Prelude.{◌≡◌, ◌==◌, ℕ, true, List, [], ◌∷◌, ◌++◌, if◌then◌else◌}
use Rattle.rex_syntax.specs.declared.service.Declarations.{Declarations}
use Rattle.rex_report.specs.declared.effect.Effect.{Effect}
use Rattle.rex_msg.specs.declared.message.Message.{Message}
use Rattle.rex_cluster.specs.Quorum.{IsNode}
use Rattle.rex_node.specs.declared.step.Step.{Step}
use Rattle.rex_process.specs.Process.{ProcessValue, IsSame}
use Rattle.rex_process.specs.Starting.{HasStarted}
use Rattle.rex_serve.specs.Answering.{AnswersFrame, IsFlushed, asked_of}
use Rattle.rex_serve.specs.Answering as answering
use Rattle.rex_serve.specs.Standing.{HearsOneOf, no_step, step_to}

-- ---- a cluster

-- a process of a cluster runs, and is this; or it runs no more, or not yet, and these are the records that it left
pub data Member (K : Type 0) : Type 0 where
  Runs : ProcessValue K → Member K
  Left : List (List ℕ) → Member K

-- its records
abbrev pub records_in : {K : Type 0} → (K → List (List ℕ)) → Member K → List (List ℕ)
records_in records (Runs p) = records p.node.keeper
records_in records (Left kept) = kept

-- the processes by their numbers, and all messages that they told, to whomever
pub record Cluster (K : Type 0) : Type 0 where
  pub members : ℕ → Member K
  pub told : List Message

-- before any of them runs; none has a record
abbrev pub beginning : {K : Type 0} → Cluster K
beginning = record { members = λ m. Left []; told = [] }

-- ---- what happens to one of them

-- a process comes up with a keeper, as this one; it answers a frame, comes to this one, and its node reports and sends this step; its keeper flushes, and
-- it is this one then; it breaks off while it answers a frame, and leaves the records of this one; or it ends between two frames
pub data Transition (K : Type 0) : Type 0 where
  ComesUp : K → ProcessValue K → Transition K
  Answers : List ℕ → ProcessValue K → Step → Transition K
  Flushes : ProcessValue K → Transition K
  BreaksOff : List ℕ → ProcessValue K → Transition K
  Ends : Transition K

-- a process that is up answers a frame so; the message that it hears, if it hears one, was told before, by whichever process, to whomever
pub record AnswersSo {K : Type 0} (records : K → List (List ℕ)) (faults : K → ℕ) (told : List Message) (p q : ProcessValue K) (frame : List ℕ) (step : Step) : Type 0 where
  pub up : p.node.up ≡ true
  pub hears : HearsOneOf told (asked_of p frame)
  pub out : List ℕ
  pub answers : AnswersFrame records faults p q frame out
  pub step_is : step ≡ step_to records faults p q frame out answers

-- it is killed while it answers one, or memory is short
pub record BreaksOffSo {K : Type 0} (records : K → List (List ℕ)) (faults : K → ℕ) (told : List Message) (p q : ProcessValue K) (frame : List ℕ) : Type 0 where
  pub up : p.node.up ≡ true
  pub hears : HearsOneOf told (asked_of p frame)
  pub broken : answering.BreaksOff records faults p q (asked_of p frame)
  pub same : IsSame p q

-- what the process comes to
abbrev pub member_after : {K : Type 0} → (K → List (List ℕ)) → Member K → Transition K → Member K
member_after records before (ComesUp keeper p) = Runs p
member_after records before (Answers frame q step) = Runs q
member_after records before (Flushes q) = Runs q
member_after records before (BreaksOff frame q) = Left (records q.node.keeper)
member_after records before Ends = Left (records_in records before)

-- what its node reports and sends
abbrev pub step_at : {K : Type 0} → Transition K → Step
step_at (ComesUp keeper p) = no_step
step_at (Answers frame q step) = step
step_at (Flushes q) = no_step
step_at (BreaksOff frame q) = no_step
step_at Ends = no_step

-- the process to which something happened, what its node reported, and the cluster then
pub record Instant (K : Type 0) : Type 0 where
  pub member : ℕ
  pub effects : List Effect
  pub cluster : Cluster K

module _ {K : Type 0} (records : K → List (List ℕ)) (faults : K → ℕ) where
  -- the cluster after that
  abbrev pub goes_on : Cluster K → ℕ → Transition K → Cluster K
  goes_on c m t = record { members = λ k. if k == m then member_after records (c.members m) t else c.members k; told = c.told ++ (step_at t).sends }

  -- it may happen to the process of this number, of so many with this service: one that runs answers frames and flushes, and one that doesn't comes up
  -- with the records that it left
  abbrev pub MayHappen : Declarations → ℕ → ℕ → Cluster K → ℕ → Transition K → Type 0
  MayHappen service seed n c m (ComesUp keeper p) = (c.members m ≡ Left (records keeper)) × HasStarted records service m n seed keeper p
  MayHappen service seed n c m (Answers frame q step) = (p : ProcessValue K) × (c.members m ≡ Runs p) × AnswersSo records faults c.told p q frame step
  MayHappen service seed n c m (Flushes q) = (p : ProcessValue K) × (c.members m ≡ Runs p) × IsFlushed records p q
  MayHappen service seed n c m (BreaksOff frame q) = (p : ProcessValue K) × (c.members m ≡ Runs p) × BreaksOffSo records faults c.told p q frame
  MayHappen service seed n c m Ends = Unit {0}

  -- ---- one after the other

  -- the cluster after all of it
  abbrev pub after_transitions : Cluster K → List (ℕ × Transition K) → Cluster K
  after_transitions c [] = c
  after_transitions c (t ∷ ts) = after_transitions (goes_on c t.0 t.1) ts

  -- each may happen where it does
  abbrev pub AllMayHappen : Declarations → ℕ → ℕ → Cluster K → List (ℕ × Transition K) → Type 0
  AllMayHappen service seed n c [] = Unit {0}
  AllMayHappen service seed n c (t ∷ ts) = IsNode n t.0 × MayHappen service seed n c t.0 t.1 × AllMayHappen service seed n (goes_on c t.0 t.1) ts

  -- what so many processes come to that begin without records
  abbrev pub cluster_after : List (ℕ × Transition K) → Cluster K
  cluster_after ts = after_transitions beginning ts

  -- and at each instant
  abbrev pub instants : Cluster K → List (ℕ × Transition K) → List (Instant K)
  instants c [] = []
  instants c (t ∷ ts) = (record { member = t.0; effects = (step_at t.1).effects; cluster = goes_on c t.0 t.1 }) ∷ instants (goes_on c t.0 t.1) ts
