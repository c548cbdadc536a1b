-- A node as a process has it, and what comes of its tasks.
use Rattle.std.specs.Prelude.{◌≡◌, ◌⊎◌, ℕ, ℤ, ◌<◌, ◌^◌, ◌-◌, ◌&&◌, ◌++◌, not, nat_lt, Bool, true, false, pos, List, [], ◌∷◌, length, drop, Option, Some, None, if◌then◌else◌}
use Rattle.std.specs.Int.{int_max}
use Rattle.rex_syntax.specs.declared.service.Declarations.{Declarations}
use Rattle.rex_state.specs.Start.{start_of}
use Rattle.rex_state.specs.Machine.{run}
use Rattle.rex_report.specs.declared.effect.Role.{Role as RoleName}
use Rattle.rex_report.specs.declared.effect.Role.TheVariants as named
use Rattle.rex_cluster.specs.Records.{known}
use Rattle.rex_cluster.specs.Node.{is_active}
use Rattle.rex_cluster.specs.Calls.{begin, replay}
use Rattle.rex_cluster.specs.Values.{Value, events_of, trace_of}
use Rattle.rex_cluster.specs.Lanes.{Here, CallHere, node_trace}
use Rattle.rex_node.specs.declared.step.Step.{Step}
use Rattle.rex_node.specs.Parts.{NodeValue, IsNode, here_of}
use Rattle.rex_processes.specs.Processes.{Task, call_for, armed_after}
use Rattle.rex_processes.specs.Processes.Task.{Elect, Hear, Turn}
use Rattle.rex_processes.specs.Plain.{IsPlain}
use Rattle.rex_processes.specs.Tested.{FitsNext, MayBeHeard, OwnReportsFit}
use Rattle.rex_processes.specs.Leading.{ActiveOpenFits, ActiveIsActing}
use Rattle.rex_fits.specs.Applied.{AppliedValue, ShowNoLater, clock_after, greatest_clock}
use Rattle.rex_process.specs.Coming.{Comes}
use Rattle.rex_process.specs.declared.answers.Answer.{Answer}
use Rattle.rex_process.specs.declared.answers.Answer.TheVariants.{Did, Unfit}

-- its service, its node, and the greatest clock that it was handed since it came up, or that what it knows shows
pub record ProcessValue (K : Type 0) : Type 0 where
  pub service : Declarations
  pub node : NodeValue K
  pub clock : ℤ

-- the node of the cluster's model that it has
abbrev pub here : {K : Type 0} → (K → List (List ℕ)) → ProcessValue K → Here
here records p = here_of records p.service [] p.node

-- the call of the model by which it does a task
abbrev pub call_in : {K : Type 0} → ProcessValue K → Task → CallHere → CallHere
call_in p task = call_for p.service p.node.seed p.node.nodes p.node.id task

-- ---- catching up

-- the role's name is that of an active node's
abbrev pub is_named_active : RoleName → Bool
is_named_active named.Active = true
is_named_active _ = false

-- a node is up and not active, and knows values that it hasn't replayed
abbrev pub is_behind : Here → Bool
is_behind x = x.up && (not (is_active x.role) && nat_lt x.replayed (length (known x.log)))

-- then it replays them
abbrev pub caught_up : ℕ → CallHere → CallHere
caught_up m d = if is_behind d.node then replay m d else d

-- a task, and what it then has to replay
abbrev pub task_in : {K : Type 0} → ProcessValue K → Task → CallHere → CallHere
task_in p task d = caught_up p.node.id (call_in p task d)

-- ---- what is kept of it

-- while it is up it has replayed all that it knows; where it is active it works with a recorder, and the value fits that it has open;
-- no event shows a greater clock than its own, which isn't below 0; and its keeper may fail once more
pub record IsUpProcess {K : Type 0} (records : K → List (List ℕ)) (faults : K → ℕ) (p : ProcessValue K) : Type 0 where
  pub caught_up : is_behind (here records p) ≡ false
  pub acts : ActiveIsActing p.service (here records p)
  pub open_fits : ActiveOpenFits p.service (here records p)
  pub reads : ℕ
  pub clock : p.clock ≡ pos reads
  pub latest : ShowNoLater p.clock (node_trace (here records p))
  pub count : faults p.node.keeper < 2 ^ 64 - 1

-- it is a node whose records have no states
pub record IsProcess {K : Type 0} (records : K → List (List ℕ)) (faults : K → ℕ) (p : ProcessValue K) : Type 0 where
  pub node : IsNode records p.service [] p.node
  pub plain : IsPlain (here records p).log
  pub up : p.node.up ≡ true → IsUpProcess records faults p

-- it is the same node of the same cluster, with the same service
pub record IsSame {K : Type 0} (p q : ProcessValue K) : Type 0 where
  pub service : q.service ≡ p.service
  pub id : q.node.id ≡ p.node.id
  pub nodes : q.node.nodes ≡ p.node.nodes
  pub seed : q.node.seed ≡ p.node.seed

-- ---- what is tested

-- what there is after all that a node knows and a value, which fits: the state, and the greatest of the clock and those that the value shows
pub record HasTest (service : Declarations) (clock : ℤ) (x : Here) (v : Value) (a : AppliedValue) : Type 0 where
  pub fits : FitsNext service x v
  pub runs : run service (start_of service) (trace_of (known x.log ++ v ∷ [])) ≡ Some a.state
  pub clock_is : a.clock ≡ greatest_clock clock (events_of v)

-- without it the value doesn't fit
abbrev pub IsTest : Declarations → ℤ → Here → Value → Option AppliedValue → Type 0
IsTest service clock x v (Some a) = HasTest service clock x v a
IsTest service clock x v None = FitsNext service x v → ⊥

-- whether something is so
abbrev pub Tells : Bool → Type 0 → Type 0
Tells true P = P
Tells false P = P → ⊥

-- what has to fit before a process does a task
abbrev pub HasToFit : {K : Type 0} → (K → List (List ℕ)) → ProcessValue K → Task → Type 0
HasToFit records p Elect = p.node.nodes ≡ 1 → OwnReportsFit p.service (here records p)
HasToFit records p (Hear x) = MayBeHeard p.service (here records p) x.content
HasToFit records p _ = Unit {0}

-- ---- what comes of a task

-- the values that it knows beyond those that it knew before
abbrev pub learned : {K : Type 0} → (K → List (List ℕ)) → ProcessValue K → ProcessValue K → List Value
learned records p q = drop (length (known (here records p).log)) (known (here records q).log)

-- the clock that it has then: after a turn the one that the lane read; else the greatest of its clock before and those that the values show that it learned
abbrev pub clock_then : {K : Type 0} → (K → List (List ℕ)) → ProcessValue K → ProcessValue K → Task → ℤ
clock_then records p q (Turn lane reads) = pos reads
clock_then records p q _ = clock_after p.clock (learned records p q)

-- it did the task, or its keeper failed meanwhile; if the node is still up, this is what its clock is
pub record ComesTo {K : Type 0} (records : K → List (List ℕ)) (faults : K → ℕ) (p q : ProcessValue K) (task : Task) (step : Step) : Type 0 where
  pub came : Comes records faults p.service (task_in p task) p.node q.node step
  pub clock : q.node.up ≡ true → q.clock ≡ clock_then records p q task

-- it came to that, or it did nothing, since a value doesn't fit
abbrev pub Answers : {K : Type 0} → (K → List (List ℕ)) → (K → ℕ) → ProcessValue K → ProcessValue K → Task → Answer → Type 0
Answers records faults p q task (Did step) = ComesTo records faults p q task step
Answers records faults p q task Unfit = (q ≡ p) × (HasToFit records p task → ⊥)

-- memory was short in the task: of the process its records are left, as they were, or after the whole task, or after so many appends of it and one that failed, with its record kept or lost
abbrev pub IsLeft : {K : Type 0} → (K → List (List ℕ)) → ProcessValue K → ProcessValue K → Task → Type 0
IsLeft records p q task =
    ((here records q).log ≡ (here records p).log)
    ⊎ (((here records q).log ≡ (call_in p task (begin (here records p))).node.log)
    ⊎ ((before : ℕ) × (kept : Bool) × ((here records q).log ≡ (call_in p task (armed_after before kept (begin (here records p)))).node.log)))

-- ---- turns

-- a lane had its turn, and its clock read the greatest one so far, this one among them
pub record HasTurn {K : Type 0} (records : K → List (List ℕ)) (faults : K → ℕ) (p q : ProcessValue K) (lane : ℕ) (clock : ℤ) (step : Step) : Type 0 where
  pub reads : ℕ
  pub greatest : pos reads ≡ int_max p.clock clock
  pub raised : q.clock ≡ int_max p.clock clock
  pub comes : ComesTo records faults p q (Turn lane reads) step
