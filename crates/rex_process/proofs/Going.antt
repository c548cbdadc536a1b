-- A process whose lanes go on.
use Rattle.std.proofs.Common.{arith, ℤ, ◌≡◌, ℕ, ◌+◌, ◌<◌, ◌≤◌, ◌^◌, Bool, true, false, List, [], ◌∷◌, length, Result, Ok, Err, IfOk, OnErr, inl, inr, refl, sym, ◌∙◌, ap, subst, append-nil, length-append, add-zero}
use Rattle.std.specs.Int.{int_max}
use Rattle.std.specs.declared.alloc.AllocError.{AllocError}
use Rattle.rand_pcg.specs.Pcg.{pcg32}
use Rattle.rex_syntax.specs.declared.service.Declarations.{Declarations}
use Rattle.rex_syntax.specs.Service.{IsService}
use Rattle.rex_syntax.specs.Check.{IsChecked}
use Rattle.rex_event.specs.declared.event.Event.{Event}
use Rattle.rex_state.specs.Machine.{lane_of}
use Rattle.rex_record.specs.declared.turns.Turn.{Turn}
use Rattle.rex_record.specs.declared.turns.Turn.TheVariants as turn
use Rattle.rex_record.specs.Turn.{dice_after, does_draw}
use Rattle.rex_record.specs.Value.{live_after}
use Rattle.rex_traits.specs.Chains.{Answer}
use Rattle.rex_cluster.specs.Records.{known}
use Rattle.rex_cluster.specs.Node.{Lead, Role, is_active}
use Rattle.rex_cluster.specs.Node.Role.{Follower, Leads}
use Rattle.rex_cluster.specs.Calls.{begin}
use Rattle.rex_cluster.specs.Values.{Value, trace_of, values_fit}
use Rattle.rex_cluster.specs.Lanes.{Here, CallHere, active_only, lane_turn, live_state, node_trace, turn_effect, turn_in, turned}
use Rattle.rex_node.specs.declared.refusal.Refusal.{Refusal}
use Rattle.rex_node.specs.declared.step.Step.{Step}
use Rattle.rex_node.specs.Calls.{LeadsTo, Refuses, refusal_active, turn_at}
use Rattle.rex_node.specs.Parts.{IsUp, NodeValue, StaysNode, here_of}
use Rattle.rex_steps.specs.Steps.{IsStepOf, TellsOf}
use Rattle.rex_steps.proofs.Served.{serves_active, turn_told}
use Rattle.rex_processes.specs.Processes.Task.{Turn as TurnOf}
use Rattle.rex_processes.specs.Tested.{KnownFits}
use Rattle.rex_processes.proofs.Ranging.{actives_in_range, one_has_room}
use Rattle.rex_fits.specs.Applied.{ShowNoLater}
use Rattle.rex_process.specs.Coming.{Comes, HasDone}
use Rattle.rex_process.specs.Process.{ProcessValue, IsProcess, IsUpProcess, IsSame, ComesTo, HasTurn, call_in, task_in, here, is_behind}
use Rattle.rex_process.specs.Going.{HasGone, HasMade, IsStill, events_in}
use Rattle.rex_process.proofs.Dating.{raised_first, raised_reads, raised_shows}
use Rattle.rex_process.proofs.Served.{comes_beside}
use Rattle.rex_process.proofs.Standing.{none_live, up_is}
use Rattle.rex_process.proofs.Staying.{stays_process, still_caught}
use Rattle.rex_process.proofs.Turning.{TurnShows, draws_none, more_shows, turn_shows}

-- a process stays one where its clock is raised
pub raised_process : {K : Type 0} → (records : K → List (List ℕ)) (faults : K → ℕ) (p : ProcessValue K) (clock : ℤ) → IsProcess records faults p → IsProcess records faults (record p { clock = int_max p.clock clock })
raised_process records faults p clock process = record {
  node = process.node;
  plain = process.plain;
  up = λ u.
      let h = process.up u in
      let raised = raised_reads h.reads clock in
      record {
        caught_up = h.caught_up;
        acts = h.acts;
        open_fits = h.open_fits;
        reads = raised.0;
        clock = ap (λ (c : ℤ). int_max c clock) h.clock ∙ raised.1;
        latest = raised_shows p.clock (int_max p.clock clock) (raised_first p.clock clock) (node_trace (here records p)) h.latest;
        count = h.count;
      };
}

-- and so is one that is that process
pub raised_is : {K : Type 0} → (records : K → List (List ℕ)) (faults : K → ℕ) (first p : ProcessValue K) (clock : ℤ) → p ≡ record first { clock = int_max first.clock clock } → IsProcess records faults first → IsProcess records faults p
raised_is records faults first p clock raised process = subst (IsProcess records faults) (sym raised) (raised_process records faults first clock process)

-- the turn of a lane in which it makes no event, and draws no random number, leaves the node as it was
unmoved : (service : Declarations) (lane : ℕ) (x : Here) (t : Turn) → events_in t ≡ 0 → does_draw service (live_state service x) (length x.work.live) lane ≡ false → (turned service lane t (begin x)).node ≡ x
unmoved service lane x t none e = by t none
  where
    undrawn : record x { work = record x.work { dice = dice_after (does_draw service (live_state service x) (length x.work.live) lane) x.work.dice } } ≡ x
    undrawn = ap (λ (drawn : Bool). record x { work = record x.work { dice = dice_after drawn x.work.dice } }) e

    by : (t : Turn) → events_in t ≡ 0 → (turned service lane t (begin x)).node ≡ x
    by (turn.Done event) h = absurd (omega (arith, h))
    by turn.Full h = undrawn
    by turn.Idle h = undrawn
    by (turn.Held holder) h = undrawn
    by turn.Unsignalled h = undrawn
    by (turn.Zero semaphore) h = undrawn
    by turn.Unfit h = undrawn

-- a turn adds the events that it made to the live ones
more_live : (live : List Event) (t : Turn) → length (live_after live t) ≡ length live + events_in t
more_live live (turn.Done e) = length-append live (e ∷ [])
more_live live turn.Full = sym (add-zero (length live))
more_live live turn.Idle = sym (add-zero (length live))
more_live live (turn.Held holder) = sym (add-zero (length live))
more_live live turn.Unsignalled = sym (add-zero (length live))
more_live live (turn.Zero semaphore) = sym (add-zero (length live))
more_live live turn.Unfit = sym (add-zero (length live))

-- a turn makes one event at most
few_in : (t : Turn) → events_in t ≤ 1
few_in (turn.Done e) = omega arith
few_in turn.Full = omega arith
few_in turn.Idle = omega arith
few_in (turn.Held holder) = omega arith
few_in turn.Unsignalled = omega arith
few_in (turn.Zero semaphore) = omega arith
few_in turn.Unfit = omega arith

module _ {K : Type 0} (records : K → List (List ℕ)) (faults : K → ℕ) (p : ProcessValue K) (process : IsProcess records faults p) (up : p.node.up ≡ true) where
  abbrev before : Here
  before = here records p

  -- what is kept of it while it is up
  is_up : IsUpProcess records faults p
  is_up = process.up up

  -- and of its node, which holds all that it knows
  known_up : IsUp p.service p.node before
  known_up = up_is records p.service p.node process.node process.plain up

  -- all that it knows fits
  fit : KnownFits p.service before
  fit = subst (λ (vs : List Value). values_fit p.service vs ≡ true) known_up.known known_up.fits

  -- and isn't too much
  few : length (known before.log) ≤ 65535
  few = known_up.numbers.log.few

  -- not too many events are live
  pub live_few : length before.work.live ≤ 4096
  live_few = by before.role refl
    where
      none : is_active before.role ≡ false → length before.work.live ≤ 4096
      none e = let nothing : length before.work.live ≡ 0 = ap (λ (es : List Event). length es) (none_live records p.service p.node process.node process.plain up e) in omega arith

      leads : (l : Lead Value) (t : Bool) → before.role ≡ Leads l → l.active ≡ t → length before.work.live ≤ 4096
      leads l true r a = (actives_in_range p.service before l.proposal fit few (is_up.acts l r a fit)).live_few
      leads l false r a = none (ap is_active r ∙ a)

      by : (r : Role Value) → before.role ≡ r → length before.work.live ≤ 4096
      by Follower r = none (ap is_active r)
      by (Leads l) r = leads l l.active r refl

  -- and each lane may make one event more
  pub has_room : (lane : ℕ) → (lane_of (live_state p.service before) lane).done + 1 < 2 ^ 32
  has_room lane = (one_has_room p.service before lane fit few live_few).room

  -- as yet nothing is otherwise
  pub still_same : IsStill records faults p p
  still_same = record { process = process; up = up; same = record { service = refl; id = refl; nodes = refl; seed = refl }; clock = refl; keeper = refl; role = refl }

  module _ (gives : K → List ℕ → Answer → K → Type 0) (good : IsService p.service) (checked : IsChecked p.service) (lane : ℕ) (there : lane < p.service.lanes) where
    abbrev work : CallHere → CallHere
    work d = lane_turn p.service is_up.reads lane d

    abbrev the_turn : Turn
    the_turn = turn_in p.service before is_up.reads lane

    abbrev called : CallHere
    called = call_in p (TurnOf lane is_up.reads) (begin before)

    -- the turn leaves the node caught up
    same_behind : is_behind called.node ≡ false
    same_behind = by (is_active before.role)
      where
        by : (t : Bool) → is_behind (active_only t (begin before) (work (begin before))).node ≡ false
        by true = is_up.caught_up
        by false = is_up.caught_up

    -- no event shows a greater clock then, either
    latest : ShowNoLater p.clock (node_trace called.node)
    latest = by (is_active before.role)
      where
        shows : TurnShows p.clock the_turn
        shows =
            subst (λ (c : ℤ). TurnShows p.clock (turn_at p.service before lane c)) is_up.clock
            (turn_shows p.clock p.service (live_state p.service before) lane (pcg32 before.work.dice).0 before.work.queue (length before.work.live))

        by : (t : Bool) → ShowNoLater p.clock (node_trace (active_only t (begin before) (work (begin before))).node)
        by true = more_shows p.clock (trace_of (known before.log)) before.work.live the_turn shows is_up.latest
        by false = is_up.latest

    module _ (q : ProcessValue K) (same : IsSame p q) (clock_is : q.clock ≡ p.clock) (keeper : q.node.keeper ≡ p.node.keeper) where
      -- the turn that the lane had is the model's
      turn_is : (t : Turn) → HasGone records p q lane t → t ≡ the_turn
      turn_is t h = h.is ∙ ap (turn_at p.service before lane) is_up.clock

      -- what is told of it is what the model's call reports
      tells : (result : Result Turn Refusal) → IfOk result (HasGone records p q lane) → IfOk result (λ t. turn_effect lane t ∷ [] ≡ (work (begin before)).effects)
      tells (Ok t) h = ap (λ (x : Turn). turn_effect lane x ∷ []) (turn_is t h)
      tells (Err e) h = tt

      -- and the node is the one that the call leads to
      leads_to : (result : Result Turn Refusal) → IfOk result (HasGone records p q lane) → IfOk result (λ t. here_of records p.service [] q.node ≡ (work (begin before)).node)
      leads_to (Ok t) h =
          ap (λ (s : Declarations). here_of records s [] q.node) (sym same.service) ∙ h.leads ∙ ap (λ (x : Turn). (turned p.service lane x (begin before)).node) (turn_is t h)
      leads_to (Err e) h = tt

      -- a turn that is refused leaves the node as it was
      same_parts : (result : Result Turn Refusal) → OnErr result (q ≡ p) → OnErr result (q.node ≡ p.node)
      same_parts (Ok t) h = tt
      same_parts (Err e) h = ap (λ (x : ProcessValue K). x.node) h

      -- the node has done the turn, or refused it
      done : (result : Result Turn Refusal) (outcome : Result Step Refusal) (step : Step) → Refuses (refusal_active before) result → IfOk result (HasGone records p q lane) → OnErr result (q ≡ p)
          → TellsOf (turn_effect lane) result outcome → IsStepOf p.node.id outcome (Ok step) → HasDone records faults p.service (call_in p (TurnOf lane is_up.reads)) p.node q.node step
      done result outcome step refused went spared told tell =
          by (comes_beside records gives faults p process.plain up [] (TurnOf lane is_up.reads) (call_in p (TurnOf lane is_up.reads)) (λ f. refl) tt tt tt q.node step
          (serves_active records gives faults p.service [] p.node q.node (turn_effect lane) (turn_told lane p.node.id) work refl up keeper result outcome refused (tells result went) (leads_to result went) (same_parts result spared) told (Ok step) tell)).0
        where
          by : Comes records faults p.service (call_in p (TurnOf lane is_up.reads)) p.node q.node step → HasDone records faults p.service (call_in p (TurnOf lane is_up.reads)) p.node q.node step
          by (goes, inl h) = h
          by (goes, inr h) = absurd (let e : faults q.node.keeper ≡ faults p.node.keeper = ap faults keeper in let l : faults p.node.keeper < faults q.node.keeper = h.counted in omega (arith, e, l))

      -- so the step is what the whole task comes to
      comes : (step : Step) → HasDone records faults p.service (call_in p (TurnOf lane is_up.reads)) p.node q.node step → ComesTo records faults p q (TurnOf lane is_up.reads) step
      comes step h = record {
        came = (
          record { written = []; grown = ap records keeper ∙ sym (append-nil (records p.node.keeper)) },
          inl (record { is = h.is ∙ sym (still_caught p.node.id called same_behind); counted = h.counted }),
        );
        clock = λ u. clock_is ∙ is_up.clock;
      }

      -- the step that is told of it is the turn's, whatever the clock was before it was raised
      pub has_turn : (first : ProcessValue K) (clock : ℤ) → p ≡ record first { clock = int_max first.clock clock } → (id : ℕ) → id ≡ p.node.id → (result : Result Turn Refusal) (outcome : Result Step Refusal)
          → Refuses (refusal_active before) result → IfOk result (HasGone records p q lane) → OnErr result (q ≡ p) → TellsOf (turn_effect lane) result outcome
          → (told : Result Step AllocError) → IsStepOf id outcome told → IfOk told (HasTurn records faults first q lane clock)
      has_turn first clock raised id number result outcome refused went spared told (Err e) tell = tt
      has_turn first clock raised id number result outcome refused went spared told (Ok step) tell =
          let clocks : p.clock ≡ int_max first.clock clock = ap (λ (x : ProcessValue K). x.clock) raised in
          let h = comes step (done result outcome step refused went spared told (subst (λ (k : ℕ). IsStepOf k outcome (Ok step)) number tell)) in
          record {
            reads = is_up.reads;
            greatest = sym is_up.clock ∙ clocks;
            raised = clock_is ∙ clocks;
            comes = record {
              came = subst (λ (x : ProcessValue K). Comes records faults x.service (task_in x (TurnOf lane is_up.reads)) x.node q.node step) raised h.came;
              clock = h.clock;
            };
          }

      -- and the process stays one
      keeps : StaysNode records p.service [] p.node q.node → (step : Step) → HasDone records faults p.service (call_in p (TurnOf lane is_up.reads)) p.node q.node step → IsProcess records faults q
      keeps stays step h =
          stays_process records faults p q good checked process up (TurnOf lane is_up.reads) step (comes step h).came same.service stays tt tt there
          (λ u. record {
            reads = is_up.reads;
            clock = clock_is ∙ is_up.clock;
            latest =
                subst (λ (c : ℤ). ShowNoLater c (node_trace (here_of records p.service [] q.node))) (sym clock_is)
                (subst (λ (d : CallHere). ShowNoLater p.clock (node_trace d.node)) (sym h.is) latest);
          })

      -- whatever came of the turn, the process goes on
      pub goes_still : StaysNode records p.service [] p.node q.node → (result : Result Turn Refusal) → Refuses (refusal_active before) result → IfOk result (HasGone records p q lane) → OnErr result (q ≡ p) → IsStill records faults p q
      goes_still stays (Ok t) refused h spared = record {
        process = keeps stays step (done (Ok t) (Ok step) step refused h tt (record { effects = refl; sends = refl }) refl);
        up = ap (λ (x : Here). x.up) h.leads ∙ up;
        same = same;
        clock = clock_is;
        keeper = keeper;
        role = ap (λ (x : Here). x.role) h.leads;
      }
        where
          step : Step
          step = record { effects = turn_effect lane t ∷ []; sends = [] }
      goes_still stays (Err e) refused h spared = subst (λ (x : ProcessValue K). IsStill records faults p x) (sym spared) still_same

    module _ (new : NodeValue K) (keeper : new.keeper ≡ p.node.keeper) (stays : StaysNode records p.service [] p.node new) where
      abbrev moved : ProcessValue K
      moved = record p { node = new }

      -- the turn that the node answers is the lane's
      gone : (result : Result Turn Refusal) → IfOk result (λ t. t ≡ turn_at p.service before lane p.clock) → IfOk result (λ t. LeadsTo (turned p.service lane t) before (here_of records p.service [] new))
          → IfOk result (HasGone records p moved lane)
      gone (Ok t) is leads = record { is = is; leads = leads }
      gone (Err e) is leads = tt

      -- and what it refuses leaves the process as it was
      spared : (result : Result Turn Refusal) → OnErr result (new ≡ p.node) → OnErr result (moved ≡ p)
      spared (Ok t) same = tt
      spared (Err e) same = ap (λ (x : NodeValue K). record p { node = x }) same

      -- whatever it answers, the process goes on
      pub moves : (result : Result Turn Refusal) → Refuses (refusal_active before) result → IfOk result (λ t. t ≡ turn_at p.service before lane p.clock)
          → IfOk result (λ t. LeadsTo (turned p.service lane t) before (here_of records p.service [] new)) → OnErr result (new ≡ p.node) → IsStill records faults p moved
      moves result refused is leads same =
          goes_still moved (record { service = refl; id = stays.same.id; nodes = stays.same.nodes; seed = stays.same.seed }) refl keeper stays result refused (gone result is leads) (spared result same)

  -- of an active node, the lane made an event, or left it as it was
  pub has_made : (lane : ℕ) (q : ProcessValue K) (t : Turn) → is_active before.role ≡ true → HasGone records p q lane t → HasMade records p q lane (events_in t)
  has_made lane q t active h = record {
    few = few_in t;
    turned = λ reads clock.
        h.leads
        ∙ ap (λ (x : Turn). (turned p.service lane x (begin before)).node) (h.is ∙ ap (turn_at p.service before lane) clock)
        ∙ ap (λ (b : Bool). (active_only b (begin before) (lane_turn p.service reads lane (begin before))).node) (sym active);
    made = ap (λ (x : Here). length x.work.live) h.leads ∙ more_live before.work.live t;
    idle = λ none.
        h.leads
        ∙ unmoved p.service lane before t none
        (draws_none p.service (live_state p.service before) before.work.queue lane p.clock (pcg32 before.work.dice).0 (length before.work.live) (ap events_in (sym h.is) ∙ none));
  }
