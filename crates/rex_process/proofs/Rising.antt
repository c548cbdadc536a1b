-- A process whose node came up and replayed all that it knows.
use Rattle.std.proofs.Common.{arith, ℤ, ◌≡◌, ℕ, zero, suc, ◌<◌, ◌-◌, ◌^◌, Bool, true, false, pos, List, [], ◌∷◌, ◌++◌, length, None, Result, Ok, IfOk, inl, inr, refl, sym, ◌∙◌, ap, subst, append-nil, lt-ltb}
use Rattle.std.specs.Prelude.{◌&&◌, ◌||◌, ◌==◌, not, nat_lt, if◌then◌else◌}
use Rattle.rex_syntax.specs.declared.service.Declarations.{Declarations}
use Rattle.rex_event.specs.declared.event.Event.{Event}
use Rattle.rex_state.specs.Value.{StateValue}
use Rattle.rex_report.specs.declared.effect.Effect.TheVariants.{Replayed, UpToDate}
use Rattle.rex_cluster.specs.Records.{Rec, known}
use Rattle.rex_cluster.specs.Node.{Lead, Role, Work, down_node, is_active, no_work}
use Rattle.rex_cluster.specs.Node.Role.{Follower, Leads}
use Rattle.rex_cluster.specs.Calls.{begin, replay, restart, say}
use Rattle.rex_cluster.specs.Values.{Value, trace_of}
use Rattle.rex_cluster.specs.Lanes.{Here, CallHere, node_trace}
use Rattle.rex_traits.specs.Chains.{Answer}
use Rattle.rex_log.specs.Log.{log_of}
use Rattle.rex_node.specs.declared.step.Step.{Step}
use Rattle.rex_node.specs.Calls.{Does}
use Rattle.rex_node.specs.declared.refusal.Refusal.{Refusal}
use Rattle.rex_node.specs.Parts.{NodeValue, IsNode, StaysNode, count_of, here_of}
use Rattle.rex_processes.specs.Plain.{IsPlain}
use Rattle.rex_processes.proofs.Stateless.{plain_starts}
use Rattle.rex_fits.specs.Applied.{AppliedValue, ShowNoLater, clock_after}
use Rattle.rex_process.specs.Process.{ProcessValue, IsProcess, IsUpProcess, caught_up, is_behind}
use Rattle.rex_process.specs.Starting.{AreApplied, HasComeUp, HasStarted}
use Rattle.rex_process.proofs.Beginning.{none_based}
use Rattle.rex_process.proofs.Dating.{after_bounds, after_reads}
use Rattle.rex_process.proofs.Staying.{never_behind, still_caught}

-- ---- catching up

-- what a replay makes of a node is the same whatever the call has said
replays_node : (m : ℕ) (d : CallHere) → (replay m d).node ≡ (replay m (begin d.node)).node
replays_node m d = by (is_active d.node.role || d.node.replayed == length (known d.node.log))
  where
    all : Here
    all = record d.node { replayed = length (known d.node.log) }

    by : (t : Bool) → (if t then say (UpToDate m) d else record d { node = all; effects = d.effects ++ Replayed m (length (known d.node.log)) ∷ [] }).node
        ≡ (if t then say (UpToDate m) (begin d.node) else record (begin d.node) { node = all; effects = [] ++ Replayed m (length (known d.node.log)) ∷ [] }).node
    by true = refl
    by false = refl

-- and so is what catching up makes of it
pub catches_node : (m : ℕ) (d : CallHere) → (caught_up m d).node ≡ (caught_up m (begin d.node)).node
catches_node m d = by (is_behind d.node)
  where
    by : (t : Bool) → (if t then replay m d else d).node ≡ (if t then replay m (begin d.node) else begin d.node).node
    by true = replays_node m d
    by false = refl

-- catching up changes nothing of a node but how much it has replayed
pub catching_keeps : {A : Type 0} → (f : Here → A) → ((x : Here) (k : ℕ) → f (record x { replayed = k }) ≡ f x) → (m : ℕ) (x : Here) → f (caught_up m (begin x)).node ≡ f x
catching_keeps f same m x = by (is_behind x)
  where
    replays : (t : Bool) → f (if t then say (UpToDate m) (begin x) else record (begin x) { node = record x { replayed = length (known x.log) }; effects = [] ++ Replayed m (length (known x.log)) ∷ [] }).node ≡ f x
    replays true = refl
    replays false = same x (length (known x.log))

    by : (t : Bool) → f (if t then replay m (begin x) else begin x).node ≡ f x
    by true = replays (is_active x.role || x.replayed == length (known x.log))
    by false = refl

-- ---- the process

module _ {K : Type 0} (records : K → List (List ℕ)) (faults : K → ℕ) (service : Declarations) (x : NodeValue K) (come : HasComeUp records faults service x) (a : AppliedValue) (applied : AreApplied service x.known a) where
  -- the node that came up
  abbrev before : Here
  before = here_of records service [] x

  -- it is kept as a node, since all that it knows fits
  is_node : IsNode records service [] x
  is_node = come.kept applied.fit

  -- it is a follower
  follows : before.role ≡ Follower
  follows = ap (λ (h : Here). h.role) come.is

  -- it works with nothing
  idle : before.work ≡ no_work
  idle = ap (λ (h : Here). h.work) come.is

  -- it is up
  is_up : before.up ≡ true
  is_up = ap (λ (h : Here). h.up) come.is

  -- it has replayed nothing
  fresh : before.replayed ≡ 0
  fresh = ap (λ (h : Here). h.replayed) come.is ∙ none_based (log_of service [] (records x.keeper)) come.plain

  -- it is behind just where it knows a value
  behind_is : is_behind before ≡ nat_lt 0 (length x.known)
  behind_is =
      ap (λ (u : Bool). u && (not (is_active before.role) && nat_lt before.replayed (length (known before.log)))) is_up
      ∙ ap (λ (r : Role Value). not (is_active r) && nat_lt before.replayed (length (known before.log))) follows
      ∙ ap (λ (k : ℕ). nat_lt k (length (known before.log))) fresh
      ∙ ap (λ (vs : List Value). nat_lt 0 (length vs)) (sym come.known_is)

  -- it knows as many values as it holds
  many_is : count_of x ≡ length x.known
  many_is = let h = come.holds in omega arith

  -- where it knows none it has caught up
  caught_none : count_of x ≡ 0 → before ≡ (caught_up x.id (begin before)).node
  caught_none e =
      let none : length x.known ≡ 0 = sym many_is ∙ e in
      ap (λ (d : CallHere). d.node) (sym (still_caught x.id (begin before) (behind_is ∙ ap (λ (k : ℕ). nat_lt 0 k) none)))

  -- it stays the node that it is
  stays_itself : StaysNode records service [] x x
  stays_itself = record { same = record { id = refl; nodes = refl; seed = refl; decoded = refl }; kept = is_node }

  -- and else once it replayed them
  caught_all : (gives : K → List ℕ → Answer → K → Type 0) (y : NodeValue K) → (count_of x ≡ 0 → ⊥) → y.keeper ≡ x.keeper
      → (outcome : Result Step Refusal) (step : Step) → outcome ≡ Ok step → IfOk outcome (Does records gives faults service [] (replay x.id) x y) → here_of records service [] y ≡ (caught_up x.id (begin before)).node
  caught_all gives y some keeper outcome step is told = by (subst (λ (o : Result Step Refusal). IfOk o (Does records gives faults service [] (replay x.id) x y)) is told)
    where
      behind : is_behind before ≡ true
      behind = behind_is ∙ above (length x.known) (λ none. some (many_is ∙ none))
        where
          above : (k : ℕ) → (k ≡ 0 → ⊥) → nat_lt 0 k ≡ true
          above zero h = absurd (h refl)
          above (suc k) h = lt-ltb 0 (suc k) (omega arith)

      by : Does records gives faults service [] (replay x.id) x y step → here_of records service [] y ≡ (caught_up x.id (begin before)).node
      by (inl h) = ap (λ (d : CallHere). d.node) (sym h.is) ∙ sym (ap (λ (t : Bool). (if t then replay x.id (begin before) else begin before).node) behind)
      by (inr h) = absurd (let less = h.counted in let same : faults y.keeper ≡ faults x.keeper = ap faults keeper in omega arith)

  -- ---- what it is once it has caught up

  module _ (y : NodeValue K) (stays : StaysNode records service [] x y) (keeper : y.keeper ≡ x.keeper) (clock : ℤ) (clock_is : clock ≡ a.clock) (caught : here_of records service [] y ≡ (caught_up x.id (begin before)).node) where
    -- the node then
    abbrev after : Here
    after = here_of records service [] y

    -- the process that has it
    abbrev process : ProcessValue K
    process = record { service = service; node = y; clock = clock }

    -- its records are the same
    log_is : after.log ≡ before.log
    log_is = ap (λ (k : K). log_of service [] (records k)) keeper

    -- they are plain
    plain : IsPlain after.log
    plain = subst (λ (l : List (Rec Value StateValue)). IsPlain l) (sym log_is) come.plain

    -- it is a follower still
    role_after : after.role ≡ Follower
    role_after = ap (λ (h : Here). h.role) caught ∙ catching_keeps (λ (h : Here). h.role) (λ h k. refl) x.id before ∙ follows

    -- it works with nothing still
    work_after : after.work ≡ no_work
    work_after = ap (λ (h : Here). h.work) caught ∙ catching_keeps (λ (h : Here). h.work) (λ h k. refl) x.id before ∙ idle

    -- it is up still
    up_after : y.up ≡ true
    up_after = ap (λ (h : Here). h.up) caught ∙ catching_keeps (λ (h : Here). h.up) (λ h k. refl) x.id before ∙ is_up

    -- so it doesn't lead
    leads_none : (l : Lead Value) → after.role ≡ Leads l → ⊥
    leads_none l e = let no : ◌≡◌ {A = Role Value} Follower (Leads l) = sym role_after ∙ e in cc

    -- the events are those of all that it knows
    trace_is : node_trace after ≡ trace_of x.known
    trace_is =
        ap (λ (w : Work). trace_of (known after.log) ++ w.live) work_after
        ∙ append-nil (trace_of (known after.log))
        ∙ ap (λ (l : List (Rec Value StateValue)). trace_of (known l)) log_is
        ∙ ap trace_of (sym come.known_is)

    -- none of them shows a greater clock
    latest : ShowNoLater clock (node_trace after)
    latest =
        subst (λ (c : ℤ). ShowNoLater c (node_trace after)) (sym (clock_is ∙ applied.clock_is))
        (subst (λ (es : List Event). ShowNoLater (clock_after (pos 0) x.known) es) (sym trace_is) (after_bounds (pos 0) x.known).shown)

    -- what is kept of a process that is up holds
    up_process : y.up ≡ true → IsUpProcess records faults process
    up_process u =
        let reads = after_reads 0 x.known in
        record {
          caught_up = subst (λ (h : Here). is_behind h ≡ false) (sym caught) (never_behind x.id (begin before));
          acts = λ l r active fit. absurd (leads_none l r);
          open_fits = λ l p r active fit o. absurd (leads_none l r);
          reads = reads.0;
          clock = clock_is ∙ applied.clock_is ∙ reads.1;
          latest = latest;
          count = subst (λ (k : K). faults k < 2 ^ 64 - 1) (sym keeper) come.count;
        }

    -- and what is kept of any
    is_process : IsProcess records faults process
    is_process = record { node = stays.kept; plain = plain; up = up_process }

    -- the node before it came up
    abbrev down : Here
    down = down_node (log_of service [] (records x.keeper)) None

    -- the process is what the model makes of that
    starts : HasStarted records service x.id x.nodes x.seed x.keeper process
    starts = record {
      service_is = refl;
      id_is = stays.same.id;
      nodes_are = stays.same.nodes;
      seed_is = stays.same.seed;
      keeper_is = keeper;
      up = up_after;
      is =
          caught ∙ ap (λ (h : Here). (caught_up x.id (begin h)).node) come.is
          ∙ sym (ap (λ (d : CallHere). (caught_up x.id d).node) (plain_starts service x.seed x.id (begin down) come.plain) ∙ catches_node x.id (restart x.id (begin down)));
      clock_is =
          clock_is ∙ applied.clock_is ∙ ap (clock_after (pos 0)) come.known_is
          ∙ sym (ap (λ (l : List (Rec Value StateValue)). clock_after (pos 0) (known l)) log_is);
    }

  -- such a process is one, and it started
  pub record HasRisen (p : ProcessValue K) : Type 0 where
    pub process : IsProcess records faults p
    pub started : HasStarted records service x.id x.nodes x.seed x.keeper p

  module _ (clock : ℤ) (clock_is : clock ≡ a.clock) where
    -- where it knows no value
    pub risen_none : count_of x ≡ 0 → HasRisen (record { service = service; node = x; clock = clock })
    risen_none none = record { process = is_process x stays_itself refl clock clock_is (caught_none none); started = starts x stays_itself refl clock clock_is (caught_none none) }

    -- where it replayed those that it knows
    pub risen_all : (gives : K → List ℕ → Answer → K → Type 0) (y : NodeValue K) → StaysNode records service [] x y → y.keeper ≡ x.keeper → (count_of x ≡ 0 → ⊥)
        → (outcome : Result Step Refusal) (step : Step) → outcome ≡ Ok step → IfOk outcome (Does records gives faults service [] (replay x.id) x y) → HasRisen (record { service = service; node = y; clock = clock })
    risen_all gives y stays keeper some outcome step is told =
        let caught = caught_all gives y some keeper outcome step is told in
        record { process = is_process y stays keeper clock clock_is caught; started = starts y stays keeper clock clock_is caught }
