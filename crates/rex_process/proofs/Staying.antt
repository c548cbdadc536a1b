-- What is kept of a process through a task.
use Rattle.std.proofs.Common.{arith, ◌++◌, ◌≡◌, ℕ, ◌<◌, ◌-◌, ◌^◌, Bool, true, false, List, [], ◌∷◌, length, inl, inr, refl, sym, ◌∙◌, ap, subst, eqb-true}
use Rattle.std.specs.Prelude.{◌&&◌, ◌||◌, ◌==◌, not, nat_lt, if◌then◌else◌}
use Rattle.std.proofs.lemmas.Bool.{false≢true}
use Rattle.std.proofs.lemmas.Bool.Decides.{nat_tests}
use Rattle.rex_syntax.specs.declared.service.Declarations.{Declarations}
use Rattle.rex_syntax.specs.Service.{IsService}
use Rattle.rex_syntax.specs.Check.{IsChecked}
use Rattle.rex_cluster.specs.Records.{known}
use Rattle.rex_cluster.specs.Node.{is_active}
use Rattle.rex_cluster.specs.Calls.{begin, replay, say}
use Rattle.rex_report.specs.declared.effect.Effect.TheVariants.{Replayed, UpToDate}
use Rattle.rex_cluster.specs.Lanes.{Here, CallHere}
use Rattle.rex_node.specs.declared.step.Step.{Step}
use Rattle.rex_node.specs.Parts.{StaysNode, here_of}
use Rattle.rex_processes.specs.Processes.{Task, armed_after}
use Rattle.rex_processes.specs.Processes.Task.{Replay}
use Rattle.rex_processes.specs.Plain.{IsPlain, IsPlainTask, HearsNoState}
use Rattle.rex_processes.specs.Leading.{ActiveOpenFits, ActiveIsActing, TaskFits}
use Rattle.rex_processes.proofs.Keeping.{opens_stay, acts_on}
use Rattle.rex_processes.proofs.Stateless.{plain_stays}
use Rattle.rex_process.specs.Coming.{Comes}
use Rattle.rex_process.specs.Process.{ProcessValue, IsProcess, IsUpProcess, call_in, task_in, caught_up, here, is_behind}
use Rattle.rex_process.specs.Settling.{Reads}

-- ---- catching up

-- whatever a task keeps, catching up keeps that replaying keeps it, too
pub caught : (G : CallHere → Type 0) (m : ℕ) (d : CallHere) → G d → G (replay m d) → G (caught_up m d)
caught G m d g r = by (is_behind d.node)
  where
    by : (t : Bool) → G (if t then replay m d else d)
    by true = r
    by false = g

-- a node that replayed all isn't behind
same_not_less : (k : ℕ) → nat_lt k k ≡ false
same_not_less k = grind (arith, nat_tests)

all_replayed : (up active : Bool) (k : ℕ) → (up && (not active && nat_lt k k)) ≡ false
all_replayed true true k = refl
all_replayed true false k = same_not_less k
all_replayed false active k = refl

-- after catching up a node isn't behind
pub never_behind : (m : ℕ) (d : CallHere) → is_behind (caught_up m d).node ≡ false
never_behind m d = by (is_behind d.node) refl
  where
    -- what a replay comes to
    replayed : (t : Bool) → (is_active d.node.role || d.node.replayed == length (known d.node.log)) ≡ t → is_behind d.node ≡ true → is_behind (replay m d).node ≡ false
    replayed false e b = subst (λ (c : CallHere). is_behind c.node ≡ false) (sym (ap (λ (t : Bool). if t then say (UpToDate m) d else all) e)) (all_replayed d.node.up (is_active d.node.role) (length (known d.node.log)))
      where
        all : CallHere
        all = record d { node = record d.node { replayed = length (known d.node.log) }; effects = d.effects ++ Replayed m (length (known d.node.log)) ∷ [] }
    replayed true e b = absurd (false≢true (sym (not_behind d.node.up (is_active d.node.role) d.node.replayed (length (known d.node.log)) e) ∙ b))
      where
        not_behind : (up active : Bool) (r k : ℕ) → (active || r == k) ≡ true → (up && (not active && nat_lt r k)) ≡ false
        not_behind false active r k e = refl
        not_behind true true r k e = refl
        not_behind true false r k e = subst (λ (n : ℕ). nat_lt r n ≡ false) (eqb-true r k e) (same_not_less r)

    by : (t : Bool) → is_behind d.node ≡ t → is_behind (if t then replay m d else d).node ≡ false
    by true b = replayed (is_active d.node.role || d.node.replayed == length (known d.node.log)) refl b
    by false b = b

-- ---- a process

module _ {K : Type 0} (records : K → List (List ℕ)) (faults : K → ℕ) (p q : ProcessValue K) (good : IsService p.service) (checked : IsChecked p.service) (process : IsProcess records faults p) (up : p.node.up ≡ true) (task : Task) (step : Step) where
  abbrev before : CallHere
  before = begin (here records p)

  is_up : IsUpProcess records faults p
  is_up = process.up up

  -- the call, and what comes of it where an append fails
  abbrev done : CallHere
  done = call_in p task before

  module _ (comes : Comes records faults p.service (task_in p task) p.node q.node step) (service_is : q.service ≡ p.service) (stays : StaysNode records p.service [] p.node q.node) (plain : IsPlainTask task) (stateless : HearsNoState task) (fits : TaskFits p.service task) where
    -- the node that the process has then
    abbrev after : Here
    after = here_of records p.service [] q.node

    -- what each call of the model keeps is so of it
    kept : (G : Here → Type 0) → ((d : CallHere) → G d.node → G (call_in p task d).node) → ((d : CallHere) → G d.node → G (replay p.node.id d).node) → ((x : Here) → G x → (b : ℕ) (k : Bool) → G (armed_after b k (begin x)).node) → G (here records p) → G after
    kept G call again arms g = by comes
      where
        by : Comes records faults p.service (task_in p task) p.node q.node step → G after
        by (goes, inl h) = subst (λ (d : CallHere). G d.node) (sym h.is) (caught (λ (d : CallHere). G d.node) p.node.id done (call before g) (again done (call before g)))
        by (goes, inr h) =
            let armed : CallHere = armed_after h.before h.kept before in
            let g2 : G (call_in p task armed).node = call armed (arms (here records p) g h.before h.kept) in
            subst (λ (d : CallHere). G d.node) (sym h.is) (caught (λ (d : CallHere). G d.node) p.node.id (call_in p task armed) g2 (again (call_in p task armed) g2))

    plain_after : IsPlain after.log
    plain_after =
        kept (λ (x : Here). IsPlain x.log)
        (λ d g. plain_stays p.service p.node.seed p.node.nodes p.node.id task d plain stateless g)
        (λ d g. plain_stays p.service p.node.seed p.node.nodes p.node.id Replay d tt tt g)
        (λ x g b k. g) process.plain

    acts_after : ActiveIsActing p.service after
    acts_after =
        kept (ActiveIsActing p.service)
        (λ d g. acts_on p.service good checked p.node.seed p.node.nodes p.node.id task fits d g)
        (λ d g. acts_on p.service good checked p.node.seed p.node.nodes p.node.id Replay tt d g)
        (λ x g b k. g) is_up.acts

    opens_after : ActiveOpenFits p.service after
    opens_after =
        kept (ActiveOpenFits p.service)
        (λ d g. opens_stay p.service p.node.seed p.node.nodes p.node.id task d g)
        (λ d g. opens_stay p.service p.node.seed p.node.nodes p.node.id Replay d g)
        (λ x g b k. g) is_up.open_fits

    -- it has caught up, unless it is down
    behind_after : q.node.up ≡ true → is_behind after ≡ false
    behind_after u = by comes
      where
        by : Comes records faults p.service (task_in p task) p.node q.node step → is_behind after ≡ false
        by (goes, inl h) = subst (λ (d : CallHere). is_behind d.node ≡ false) (sym h.is) (never_behind p.node.id done)
        by (goes, inr h) = absurd (false≢true (sym h.down ∙ u))

    counted : q.node.up ≡ true → faults q.node.keeper < 2 ^ 64 - 1
    counted u = by comes
      where
        by : Comes records faults p.service (task_in p task) p.node q.node step → faults q.node.keeper < 2 ^ 64 - 1
        by (goes, inl h) = subst (λ (k : ℕ). k < 2 ^ 64 - 1) (sym h.counted) is_up.count
        by (goes, inr h) = absurd (false≢true (sym h.down ∙ u))

    pub stays_process : (q.node.up ≡ true → Reads records (record q { service = p.service })) → IsProcess records faults q
    stays_process reads = subst (λ (s : Declarations). IsProcess records faults (record q { service = s })) (sym service_is) (record {
      node = stays.kept;
      plain = plain_after;
      up = λ u. record {
        caught_up = behind_after u;
        acts = acts_after;
        open_fits = opens_after;
        reads = (reads u).reads;
        clock = (reads u).clock;
        latest = (reads u).latest;
        count = counted u;
      };
    })

-- ---- calls that leave a node as far along as it was

-- a node that has caught up stays so where neither what it knows nor what it replayed nor its role is another one
pub still_caught : (m : ℕ) (d : CallHere) → is_behind d.node ≡ false → caught_up m d ≡ d
still_caught m d e = ap (λ (t : Bool). if t then replay m d else d) e
