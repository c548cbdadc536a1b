-- A process between a call of its node and what comes behind that.
use Rattle.std.proofs.Common.{arith, ℤ, ◌≡◌, ℕ, ◌≤◌, Bool, true, false, List, [], ◌∷◌, ◌++◌, length, take, drop, Option, inl, inr, IfSome, refl, sym, ◌∙◌, ap, subst}
use Rattle.std.proofs.lemmas.List.Elements.{All-nil, All-cons, All-head, All-tail}
use Rattle.rex_syntax.specs.Service.{IsService}
use Rattle.rex_syntax.specs.Check.{IsChecked}
use Rattle.rex_event.specs.declared.event.Event.{Event}
use Rattle.rex_cluster.specs.Records.{known}
use Rattle.rex_cluster.specs.Node.{Lead, Role, is_active}
use Rattle.rex_cluster.specs.Node.Role.{Follower, Leads}
use Rattle.rex_cluster.specs.Calls.{begin}
use Rattle.rex_cluster.specs.Values.{Value, trace_of, values_fit}
use Rattle.rex_cluster.specs.Lanes.{Here, CallHere}
use Rattle.rex_node.specs.declared.step.Step.{Step}
use Rattle.rex_node.specs.Parts.{NodeValue, StaysNode, count_of, here_of}
use Rattle.rex_processes.specs.Processes.{Task, armed_after}
use Rattle.rex_processes.specs.Plain.{IsPlain, IsPlainTask, HearsNoState}
use Rattle.rex_processes.specs.Leading.{TaskFits}
use Rattle.rex_processes.specs.Tested.{KnownFits}
use Rattle.rex_processes.proofs.Stateless.{plain_stays}
use Rattle.rex_fits.specs.Applied.{AppliedValue, IsNoLater, ShowNoLater, clock_after, shown_by}
use Rattle.rex_process.specs.Coming.{CatchesUp, Comes}
use Rattle.rex_process.specs.Process.{ProcessValue, IsProcess, IsUpProcess, ComesTo, call_in, task_in, caught_up, clock_then, here, learned}
use Rattle.rex_process.specs.Settling.{IsCaught, IsReady, IsSettling, IsUpSettling, noted_clock}
use Rattle.rex_process.proofs.Catching.{then_caught}
use Rattle.rex_process.proofs.Growing.{first_known, knows_on, longer_known, same_known}
use Rattle.rex_process.proofs.Living.{LiveIsDated}
use Rattle.rex_process.proofs.Standing.{holds, known_is, none_live, up_is}
use Rattle.rex_process.proofs.Staying.{stays_process}

-- what is so of two lists, one behind the other, is so of each
pub front_shows : (c : ℤ) (some more : List Event) → ShowNoLater c (some ++ more) → ShowNoLater c some
front_shows c [] more h = All-nil (λ (e : Event). IsNoLater c (shown_by e.kind))
front_shows c (x ∷ some) more h =
    All-cons (λ (e : Event). IsNoLater c (shown_by e.kind)) x some (All-head (λ (e : Event). IsNoLater c (shown_by e.kind)) x (some ++ more) h)
    (front_shows c some more (All-tail (λ (e : Event). IsNoLater c (shown_by e.kind)) x (some ++ more) h))

pub back_shows : (c : ℤ) (some more : List Event) → ShowNoLater c (some ++ more) → ShowNoLater c more
back_shows c [] more h = h
back_shows c (x ∷ some) more h = back_shows c some more (All-tail (λ (e : Event). IsNoLater c (shown_by e.kind)) x (some ++ more) h)

module _ {K : Type 0} (records : K → List (List ℕ)) (faults : K → ℕ) (p : ProcessValue K) (good : IsService p.service) (checked : IsChecked p.service) (process : IsProcess records faults p) (up : p.node.up ≡ true)
    (task : Task) (mid : NodeValue K) (first : Step) (comes : Comes records faults p.service (call_in p task) p.node mid first) (stays : StaysNode records p.service [] p.node mid)
    (plain : IsPlainTask task) (stateless : HearsNoState task) where
  abbrev before : Here
  before = here records p

  abbrev between : Here
  between = here_of records p.service [] mid

  abbrev middle : ProcessValue K
  middle = record p { node = mid }

  is_up : IsUpProcess records faults p
  is_up = process.up up

  -- what the call keeps is so of the node then
  kept : (G : Here → Type 0) → ((d : CallHere) → G d.node → G (call_in p task d).node) → ((x : Here) → G x → (b : ℕ) (k : Bool) → G (armed_after b k (begin x)).node) → G before → G between
  kept G call arms g = by comes
    where
      by : Comes records faults p.service (call_in p task) p.node mid first → G between
      by (goes, inl h) = subst (λ (d : CallHere). G d.node) (sym h.is) (call (begin before) g)
      by (goes, inr h) = subst (λ (d : CallHere). G d.node) (sym h.is) (call (armed_after h.before h.kept (begin before)) (arms before g h.before h.kept))

  pub plain_between : IsPlain between.log
  plain_between =
      kept (λ (x : Here). IsPlain x.log) (λ d g. plain_stays p.service p.node.seed p.node.nodes p.node.id task d plain stateless g) (λ x g b k. g) process.plain

  goes_on : (more : List Value) × (known between.log ≡ known before.log ++ more)
  goes_on = let k = knows_on p.service [] records p.node.keeper mid.keeper comes.0 plain_between in (k.more, k.is)

  pub known_before : p.node.known ≡ known before.log
  known_before = known_is records p.service p.node process.node process.plain up

  -- no live event shows a greater clock where the call keeps that
  pub live_between : ((c : ℤ) (d : CallHere) → LiveIsDated c p.service d.node → LiveIsDated c p.service (call_in p task d).node) → mid.up ≡ true → ShowNoLater p.clock between.work.live
  live_between call u = by between.role refl
    where
      dated : LiveIsDated p.clock p.service between
      dated = kept (LiveIsDated p.clock p.service) (call p.clock) (λ x g b k. g) (λ l r a f. back_shows p.clock (trace_of (known before.log)) before.work.live is_up.latest)

      fit : KnownFits p.service between
      fit = let x = up_is records p.service mid stays.kept plain_between u in subst (λ (vs : List Value). values_fit p.service vs ≡ true) x.known x.fits

      none : is_active between.role ≡ false → ShowNoLater p.clock between.work.live
      none e = subst (ShowNoLater p.clock) (sym (none_live records p.service mid stays.kept plain_between u e)) (All-nil (λ (e : Event). IsNoLater p.clock (shown_by e.kind)))

      leads : (l : Lead Value) (t : Bool) → between.role ≡ Leads l → l.active ≡ t → ShowNoLater p.clock between.work.live
      leads l true r a = dated l r a fit
      leads l false r a = none (ap is_active r ∙ a)

      by : (r : Role Value) → between.role ≡ r → ShowNoLater p.clock between.work.live
      by Follower r = none (ap is_active r)
      by (Leads l) r = leads l l.active r refl

  module _ (many : ℕ) (counted : many ≡ count_of p.node) where
    -- so many are those that were known before
    many_is : many ≡ length (known before.log)
    many_is =
        let holds_all : p.node.offset ≡ 0 = holds records p.service p.node process.node process.plain up in
        let e : count_of p.node ≡ length p.node.known = omega (arith, holds_all) in
        counted ∙ (e ∙ ap length known_before)

    -- what is asked of what comes behind the call
    pub settles : ((c : ℤ) (d : CallHere) → LiveIsDated c p.service d.node → LiveIsDated c p.service (call_in p task d).node) → (test : Option AppliedValue) → (mid.up ≡ true → IfSome test (IsReady records middle))
        → (mid.up ≡ true → IfSome test (λ (a : AppliedValue). a.clock ≡ noted_clock records middle (length (known before.log)))) → IsSettling records middle many test
    settles call test ready noted = record { node = stays.kept; plain = plain_between; up = at }
      where
        at : mid.up ≡ true → IsUpSettling records middle many test
        at u = record {
          within = subst (λ (k : ℕ). k ≤ length (known between.log)) (sym many_is) (longer_known before.log between.log goes_on.0 goes_on.1);
          reads = is_up.reads;
          clock = is_up.clock;
          noted =
              subst (λ (vs : List Value). ShowNoLater p.clock (trace_of vs)) (sym (ap (λ (k : ℕ). take k (known between.log)) many_is ∙ first_known before.log between.log goes_on.0 goes_on.1))
              (front_shows p.clock (trace_of (known before.log)) before.work.live is_up.latest);
          live = live_between call u;
          tested = ready u;
          test_clock = subst (λ (k : ℕ). IfSome test (λ (a : AppliedValue). a.clock ≡ noted_clock records middle k)) (sym many_is) (noted u);
        }

    -- and what comes of both
    module _ (fits : TaskFits p.service task) (q : ProcessValue K) (step : Step) (caught : IsCaught records middle q (noted_clock records middle many) first step) (service_is : q.service ≡ p.service) (after : StaysNode records p.service [] mid q.node) where
      -- the task, with what was caught up behind it, came to the step
      came : Comes records faults p.service (task_in p task) p.node q.node step
      came = then_caught records faults p.service (call_in p task) p.node.id p.node mid q.node first step comes (subst (λ (m : ℕ). CatchesUp records p.service (caught_up m) mid q.node first step) stays.same.id caught.catches)

      -- the clock that is noted is the one after what was learned
      clock_is : q.node.up ≡ true → q.clock ≡ clock_after p.clock (learned records p q)
      clock_is u =
          caught.clock_is u
          ∙ ap (λ (k : ℕ). clock_after p.clock (drop k (known between.log))) many_is
          ∙ ap (λ (vs : List Value). clock_after p.clock (drop (length (known before.log)) vs)) (sym (same_known records middle q service_is caught.catches.keeper))

      pub comes_to : clock_then records p q task ≡ clock_after p.clock (learned records p q) → ComesTo records faults p q task step
      comes_to learns = record { came = came; clock = λ u. clock_is u ∙ sym learns }

      pub stays_so : StaysNode records p.service [] p.node q.node
      stays_so = record {
        same = record { id = after.same.id ∙ stays.same.id; nodes = after.same.nodes ∙ stays.same.nodes; seed = after.same.seed ∙ stays.same.seed; decoded = after.same.decoded ∙ stays.same.decoded };
        kept = after.kept;
      }

      pub process_after : IsProcess records faults q
      process_after = stays_process records faults p q good checked process up task step came service_is stays_so plain stateless fits caught.reads
