-- A process that is down after a frame has a keeper that failed.
use Rattle.std.proofs.Common.{◌≡◌, ◌⊎◌, ◌<◌, ◌≤◌, ℕ, ℤ, true, false, List, Result, Ok, Err, inl, inr, refl, sym, ◌∙◌, ap, arith}
use Rattle.std.specs.Prelude.{OnOk}
use Rattle.std.proofs.lemmas.Bool.{false≢true}
use Rattle.rex_traits.specs.Causes.{Rose}
use Rattle.rex_cluster.specs.Calls.{begin}
use Rattle.rex_cluster.specs.Lanes.{CallHere, Here}
use Rattle.rex_node.specs.declared.step.Step.{Step}
use Rattle.rex_node.specs.Parts.{NodeValue}
use Rattle.rex_processes.specs.Processes.{Task}
use Rattle.rex_processes.specs.Plain.{IsPlainTask}
use Rattle.rex_process.specs.declared.answers.Answer.{Answer}
use Rattle.rex_process.specs.declared.answers.Answer.TheVariants.{Did, Unfit}
use Rattle.rex_process.specs.declared.running.Ran.{Ran}
use Rattle.rex_process.specs.declared.running.Ran.TheVariants.{Made, Refused}
use Rattle.rex_process.specs.Coming.{HasDone, HasDied}
use Rattle.rex_process.specs.Process.{ProcessValue, Answers, ComesTo, call_in, here, task_in}
use Rattle.rex_process.specs.Running.{HasRun, RanAs}
use Rattle.rex_serve.specs.Serving.{IsUpOrFailed}
use Rattle.rex_serve.proofs.Asked.{turns_up}
use Rattle.rex_serve.proofs.Steady.{IsSteady, task_steady}
use Rattle.rex_serve.proofs.Tasks.{caught_up_stays}

-- what holds anyway holds where there is a value
pub on_ok : {T E : Type 0} (r : Result T E) (P : Type 0) → P → OnOk r P
on_ok (Ok x) P p = p
on_ok (Err e) P p = tt

module _ {K : Type 0} (records : K → List (List ℕ)) (faults : K → ℕ) (p q : ProcessValue K) (up : p.node.up ≡ true) where
  -- it is up still, and no fault was counted
  still_up : q.node.up ≡ true → faults q.node.keeper ≡ faults p.node.keeper → IsUpOrFailed faults p q
  still_up u same = record { later = omega (arith, same); failed = λ down. absurd (false≢true (sym down ∙ u)) }

  -- it did nothing
  pub same_counts : q.node ≡ p.node → IsUpOrFailed faults p q
  same_counts same = still_up (ap (λ (x : NodeValue K). x.up) same ∙ up) (ap (λ (x : NodeValue K). faults x.keeper) same)

  -- it came to a task
  pub came_counts : (task : Task) → IsPlainTask task → (step : Step) → ComesTo records faults p q task step → IsUpOrFailed faults p q
  came_counts task plain step h = by h.came.1
    where
      done : CallHere
      done = call_in p task (begin (here records p))

      steady : IsSteady done
      steady = task_steady p.service p.node.seed p.node.nodes p.node.id task (begin (here records p)) plain (record { up = up; unarmed = refl })

      by : HasDone records faults p.service (task_in p task) p.node q.node step ⊎ HasDied records faults p.service (task_in p task) p.node q.node step → IsUpOrFailed faults p q
      by (inl d) = still_up (ap (λ (c : CallHere). c.node.up) d.is ∙ (caught_up_stays p.node.id done ∙ steady.up)) d.counted
      by (inr d) = record { later = (let rose = d.counted in omega arith); failed = λ down. d.counted }

  -- it came to a task, or a value didn't fit
  pub answer_counts : (task : Task) → IsPlainTask task → (answer : Answer) → Answers records faults p q task answer → IsUpOrFailed faults p q
  answer_counts task plain (Did step) h = came_counts task plain step h
  answer_counts task plain Unfit h = same_counts (ap (λ (x : ProcessValue K). x.node) h.0)

  -- its lanes had turns
  pub run_counts : (clock : ℤ) (ran : Ran) → HasRun records p q clock ran → q.node.keeper ≡ p.node.keeper → IsUpOrFailed faults p q
  run_counts clock ran h same = by ran h.came
    where
      by : (ran : Ran) → RanAs records p q h.reads ran → IsUpOrFailed faults p q
      by (Made events) t = still_up (ap (λ (x : Here). x.up) t.turns ∙ turns_up p.service p.node.seed p.node.nodes p.node.id h.reads t.lanes (here records p) up) (ap faults same)
      by (Refused effect) t = same_counts t.same

-- a process that was up, and came to this one, and then to that one
pub counts_join : {K : Type 0} (faults : K → ℕ) (p m q : ProcessValue K) → IsUpOrFailed faults p m → IsUpOrFailed faults m q → IsUpOrFailed faults p q
counts_join faults p m q h k = record { later = (let a = h.later in let b = k.later in omega arith); failed = λ down. (let a = h.later in let b = k.failed down in omega arith) }

-- a count that rose behind another one rose
pub rose_behind : (before middle now : ℕ) → before ≤ middle → Rose middle now → Rose before now
rose_behind before middle now le rose = omega (arith, le, rose)

-- and one that is greater did
pub rose_by : (before middle now : ℕ) → before < middle → middle ≤ now → Rose before now
rose_by before middle now lt le = omega (arith, lt, le)

module _ {K : Type 0} (faults : K → ℕ) (p m q : ProcessValue K) where
  -- a process that was up answered some frames, and then it was down, or a flush failed
  pub failed_rose : IsUpOrFailed faults p m → (m.node.up ≡ false) ⊎ Rose (faults m.node.keeper) (faults q.node.keeper) → faults m.node.keeper ≤ faults q.node.keeper → Rose (faults p.node.keeper) (faults q.node.keeper)
  failed_rose h (inl down) later = rose_by (faults p.node.keeper) (faults m.node.keeper) (faults q.node.keeper) (h.failed down) later
  failed_rose h (inr rose) later = rose_behind (faults p.node.keeper) (faults m.node.keeper) (faults q.node.keeper) h.later rose
