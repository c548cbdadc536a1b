-- What an active node keeps, whatever its process does.
use Rattle.std.proofs.Common.{◌≡◌, ℕ, suc, true, List, [], ◌∷◌, ◌++◌, length, Option, Some, None, subst}
use Rattle.std.specs.Prelude.{nat_le}
use Rattle.std.proofs.lemmas.Bool.{and_parts}
use Rattle.std.proofs.lemmas.Option.{same_Some}
use Rattle.std.proofs.lemmas.List.Elements.{All-nil, All-cons}
use Rattle.rand_pcg.specs.Lcg.{Lcg}
use Rattle.rex_syntax.specs.declared.service.Declarations.{Declarations}
use Rattle.rex_syntax.specs.Service.{IsService}
use Rattle.rex_syntax.specs.Check.{IsChecked}
use Rattle.rex_event.specs.declared.event.Event.{Event}
use Rattle.rex_event.specs.Cuts.{below}
use Rattle.rex_cut.specs.Greatest.{greatest_cut}
use Rattle.rex_state.specs.Value.{StateValue}
use Rattle.rex_schedule.specs.Fits.{RequestFits}
use Rattle.rex_cluster.specs.Records.{Proposal, proposal_of, known}
use Rattle.rex_cluster.specs.Node.{Service, Lead, Role, Work, is_active}
use Rattle.rex_cluster.specs.Node.Role.{Follower, Leads}
use Rattle.rex_cluster.specs.Calls.{work_known, enough}
use Rattle.rex_cluster.specs.Values.{Value, values_fit, service_of}
use Rattle.rex_cluster.specs.Lanes.{CallHere, no_limits, value_at, is_faithful, cut_live, cut_lead, cut_role, cut}
use Rattle.rex_cluster.specs.Acting.{IsActing}
use Rattle.rex_cluster.proofs.Working.{fresh_work, Works, if_works, propose_works, settle_works, elect_works, receive_works, replay_works, checkpoint_works, drop_works}
use Rattle.rex_cluster.proofs.Acting.{acting_new, acting_known, live_cut}
use Rattle.rex_safety.proofs.WorkingWorlds.{only_works}
use Rattle.rex_safety.proofs.Actives.{submit_works, turn_works, cut_works, no_limits_live}
use Rattle.rex_processes.specs.Processes.{Task, call_for}
use Rattle.rex_processes.specs.Processes.Task.{Elect, Submit, Turn, Cut, Hear, Ask, Replay, Save, Forget}
use Rattle.rex_processes.specs.Leading.{ActiveOpenFits, ActiveIsActing, TaskFits}

-- ---- a fact of what an active node knows and works with

module _ (service : Declarations) (seed n m : ℕ) (A : List Value → Option (Proposal Value) → Work → Type 0)
    (new : (vs : List Value) (dice : Lcg) → values_fit service vs ≡ true → A vs None (fresh_work dice))
    (more : (vs : List Value) (p : Proposal Value) (w : Work) → values_fit service (vs ++ p.value ∷ []) ≡ true → (values_fit service vs ≡ true → A vs (Some p) w) → A (vs ++ p.value ∷ []) None (work_known (service_of service seed) true (vs ++ p.value ∷ []) w)) where
  abbrev sv : Service Value StateValue
  sv = service_of service seed

  abbrev W : CallHere → Type 0
  W d = Works n sv m A new more d

  -- what requests, turns and cuts come to; any other task is like this
  abbrev LanesKeep : Task → CallHere → Type 0
  LanesKeep (Submit r) d = W (call_for service seed n m (Submit r) d)
  LanesKeep (Turn lane clock) d = W (call_for service seed n m (Turn lane clock) d)
  LanesKeep Cut d = W (call_for service seed n m Cut d)
  LanesKeep _ d = Unit {0}

  task_works : (task : Task) (d : CallHere) → LanesKeep task d → W d → W (call_for service seed n m task d)
  task_works Elect d h w = elect_works n sv m A new more d w
  task_works (Submit r) d h w = h
  task_works (Turn lane clock) d h w = h
  task_works Cut d h w = h
  task_works (Hear x) d h w = receive_works n sv m A new more x.from x.content d w
  task_works (Ask other) d h w = record { each = w.each }
  task_works Replay d h w = replay_works n sv m A new more d w
  task_works (Save version) d h w = checkpoint_works n sv m A new more version d w
  task_works Forget d h w = drop_works n sv m A new more d w

-- ---- the open value

module _ (service : Declarations) (seed n m : ℕ) where
  -- the value fits that is open after these
  abbrev Fits : List Value → Option (Proposal Value) → Work → Type 0
  Fits vs o w = (p : Proposal Value) → o ≡ Some p → values_fit service (vs ++ p.value ∷ []) ≡ true

  none_open : (vs : List Value) (w : Work) → Fits vs None w
  none_open vs w p e = absurd (cc)

  new_open : (vs : List Value) (dice : Lcg) → values_fit service vs ≡ true → Fits vs None (fresh_work dice)
  new_open vs dice fit = none_open vs (fresh_work dice)

  more_open : (vs : List Value) (p : Proposal Value) (w : Work) → values_fit service (vs ++ p.value ∷ []) ≡ true → (values_fit service vs ≡ true → Fits vs (Some p) w) → Fits (vs ++ p.value ∷ []) None (work_known (service_of service seed) true (vs ++ p.value ∷ []) w)
  more_open vs p w fit h = none_open (vs ++ p.value ∷ []) (work_known (service_of service seed) true (vs ++ p.value ∷ []) w)

  abbrev O : CallHere → Type 0
  O d = Works n (service_of service seed) m Fits new_open more_open d

  -- what is cut runs after what is known
  cut_open : (counts : List ℕ) (d : CallHere) → O d → O (cut service seed n m counts d)
  cut_open counts d w = by d.node.role
    where
      live : (l : Lead Value) (es : List Event) → O (cut_live service seed n m (greatest_cut counts d.node.work.live) l es d)
      live l [] = record { each = w.each }
      live l (y ∷ ys) =
          if_works n (service_of service seed) m Fits new_open more_open (is_faithful service seed (known d.node.log) (greatest_cut counts d.node.work.live) d.node.work.live)
          (λ f. propose_works n (service_of service seed) m Fits new_open more_open _ d l (suc (length (known d.node.log))) (value_at (greatest_cut counts d.node.work.live) d.node.work.live) _
          (λ a g p e. subst (λ (q : Proposal Value). values_fit service (known d.node.log ++ q.value ∷ []) ≡ true)
          (same_Some (proposal_of l.ballot (suc (length (known d.node.log))) (value_at (greatest_cut counts d.node.work.live) d.node.work.live)) p e) (and_parts _ _ f).0)
          (settle_works n (service_of service seed) m Fits new_open more_open (enough l.reported)))
          (λ _. record { each = w.each })

      led : (l : Lead Value) (o : Option (Proposal Value)) → O (cut_lead service seed n m counts l o d)
      led l (Some p) = record { each = w.each }
      led l None =
          if_works n (service_of service seed) m Fits new_open more_open (nat_le 65535 (length (known d.node.log))) (λ _. record { each = w.each })
          (λ _. live l (below (greatest_cut counts d.node.work.live) d.node.work.live))

      by : (r : Role Value) → O (cut_role service seed n m counts r d)
      by Follower = record { each = w.each }
      by (Leads l) = only_works service seed n Fits new_open more_open m l.active d _ w (led l l.proposal)

  lanes_open : (task : Task) (d : CallHere) → O d → LanesKeep service seed n m Fits new_open more_open task d
  lanes_open (Submit r) d w = only_works service seed n Fits new_open more_open m (is_active d.node.role) d _ w (record { each = w.each })
  lanes_open (Turn lane clock) d w = only_works service seed n Fits new_open more_open m (is_active d.node.role) d _ w (record { each = w.each })
  lanes_open Cut d w = cut_open (no_limits service d.node) d w
  lanes_open _ d w = tt

  pub opens_stay : (task : Task) (d : CallHere) → ActiveOpenFits service d.node → ActiveOpenFits service (call_for service seed n m task d).node
  opens_stay task d h l p r a g e = (task_works service seed n m Fits new_open more_open task d (lanes_open task d here) here).each l r a g p e
    where
      here : O d
      here = record { each = λ k role active fits q f. h k q role active fits f }

-- ---- the recorder

module _ (service : Declarations) (good : IsService service) (checked : IsChecked service) (seed n m : ℕ) where
  abbrev R : CallHere → Type 0
  R d = Works n (service_of service seed) m (IsActing service) (acting_new service good checked) (acting_known service good checked seed) d

  lanes_act : (task : Task) → TaskFits service task → (d : CallHere) → R d → LanesKeep service seed n m (IsActing service) (acting_new service good checked) (acting_known service good checked seed) task d
  lanes_act (Submit r) t d w = submit_works service good checked seed n m (r ∷ []) (All-cons (RequestFits service) r [] t (All-nil (RequestFits service))) 0 d w
  lanes_act (Turn lane clock) t d w = turn_works service good checked seed n m clock lane t d w
  lanes_act Cut t d w =
      cut_works service good checked seed n m (no_limits service d.node) d
      (λ o a. live_cut service good checked (known d.node.log) o d.node.work a (no_limits service d.node) (no_limits_live service good checked d.node o a)) w
  lanes_act _ t d w = tt

  pub acts_on : (task : Task) → TaskFits service task → (d : CallHere) → ActiveIsActing service d.node → ActiveIsActing service (call_for service seed n m task d).node
  acts_on task t d h = (task_works service seed n m (IsActing service) (acting_new service good checked) (acting_known service good checked seed) task d (lanes_act task t d (record { each = h })) (record { each = h })).each
