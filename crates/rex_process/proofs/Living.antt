-- The live events of an active node show no greater clock after a task that isn't a turn.
use Rattle.std.proofs.Common.{◌≡◌, ℕ, suc, ℤ, Bool, true, false, not, List, [], ◌∷◌, ◌++◌, length, Option, Some, None, refl, sym, subst}
use Rattle.std.specs.Prelude.{nat_le}
use Rattle.std.proofs.lemmas.List.Elements.{All-nil, All-filter}
use Rattle.rand_pcg.specs.Lcg.{Lcg}
use Rattle.rex_syntax.specs.declared.service.Declarations.{Declarations}
use Rattle.rex_syntax.specs.declared.request.Request.{Request}
use Rattle.rex_syntax.specs.Service.{IsService}
use Rattle.rex_syntax.specs.Check.{IsChecked}
use Rattle.rex_event.specs.declared.event.Event.{Event}
use Rattle.rex_event.specs.Cuts.{below, is_below}
use Rattle.rex_cut.specs.Greatest.{greatest_cut}
use Rattle.rex_state.specs.Counts.{counts_of}
use Rattle.rex_cluster.specs.Records.{Proposal, known}
use Rattle.rex_cluster.specs.Node.{Lead, Message, Role, Work, is_active}
use Rattle.rex_cluster.specs.Node.Role.{Follower, Leads}
use Rattle.rex_cluster.specs.Calls.{work_known, enough}
use Rattle.rex_cluster.specs.Values.{Value, values_fit, service_of, state_after, trace_of}
use Rattle.rex_cluster.specs.Lanes.{Here, CallHere, active_only, no_limits, submit_request, value_at, is_faithful, cut_live, cut_lead, cut_role, cut}
use Rattle.rex_cluster.proofs.Acting.{fits_front}
use Rattle.rex_cluster.proofs.Working.{fresh_work, Works, if_works, propose_works, settle_works, elect_works, receive_works}
use Rattle.rex_safety.proofs.WorkingWorlds.{only_works}
use Rattle.rex_processes.specs.Processes.{call_for}
use Rattle.rex_processes.specs.Processes.Task.{Elect, Cut, Hear, Submit}
use Rattle.rex_processes.specs.Tested.{KnownFits}
use Rattle.rex_fits.specs.Applied.{IsNoLater, ShowNoLater, shown_by}

-- where a node is active, and all that it knows fits, no live event shows a greater clock
abbrev pub LiveIsDated : ℤ → Declarations → Here → Type 0
LiveIsDated c service x = (l : Lead Value) → x.role ≡ Leads l → l.active ≡ true → KnownFits service x → ShowNoLater c x.work.live

module _ (c : ℤ) (service : Declarations) (good : IsService service) (checked : IsChecked service) (seed n m : ℕ) where
  abbrev Dated : List Value → Option (Proposal Value) → Work → Type 0
  Dated vs o w = ShowNoLater c w.live

  new_dated : (vs : List Value) (dice : Lcg) → values_fit service vs ≡ true → Dated vs None (fresh_work dice)
  new_dated vs dice fit = All-nil (λ (e : Event). IsNoLater c (shown_by e.kind))

  more_dated : (vs : List Value) (p : Proposal Value) (w : Work) → values_fit service (vs ++ p.value ∷ []) ≡ true → (values_fit service vs ≡ true → Dated vs (Some p) w)
      → Dated (vs ++ p.value ∷ []) None (work_known (service_of service seed) true (vs ++ p.value ∷ []) w)
  more_dated vs p w fit h =
      All-filter (λ (e : Event). not (is_below (counts_of (state_after service (trace_of (vs ++ p.value ∷ [])))) e)) (λ (e : Event). IsNoLater c (shown_by e.kind)) w.live
      (h (fits_front service good checked vs p.value fit))

  abbrev D : CallHere → Type 0
  D d = Works n (service_of service seed) m Dated new_dated more_dated d

  cut_dated : (counts : List ℕ) (d : CallHere) → D d → D (cut service seed n m counts d)
  cut_dated counts d w = by d.node.role refl
    where
      live : (l : Lead Value) → d.node.role ≡ Leads l → l.active ≡ true → (es : List Event) → D (cut_live service seed n m (greatest_cut counts d.node.work.live) l es d)
      live l r active [] = record { each = w.each }
      live l r active (y ∷ ys) =
          if_works n (service_of service seed) m Dated new_dated more_dated (is_faithful service seed (known d.node.log) (greatest_cut counts d.node.work.live) d.node.work.live)
          (λ f. propose_works n (service_of service seed) m Dated new_dated more_dated _ d l (suc (length (known d.node.log))) (value_at (greatest_cut counts d.node.work.live) d.node.work.live) _
          (λ a g. w.each l r a g)
          (settle_works n (service_of service seed) m Dated new_dated more_dated (enough l.reported)))
          (λ _. record { each = w.each })

      led : (l : Lead Value) → d.node.role ≡ Leads l → l.active ≡ true → (o : Option (Proposal Value)) → D (cut_lead service seed n m counts l o d)
      led l r active (Some p) = record { each = w.each }
      led l r active None =
          if_works n (service_of service seed) m Dated new_dated more_dated (nat_le 65535 (length (known d.node.log))) (λ _. record { each = w.each })
          (λ _. live l r active (below (greatest_cut counts d.node.work.live) d.node.work.live))

      acts : (l : Lead Value) (t : Bool) → d.node.role ≡ Leads l → l.active ≡ t → D (cut_role service seed n m counts (Leads l) d)
      acts l true r a = only_works service seed n Dated new_dated more_dated m l.active d _ w (led l r a l.proposal)
      acts l false r a = subst (λ (t : Bool). D (active_only t d (cut_lead service seed n m counts l l.proposal d))) (sym a) (record { each = w.each })

      by : (r : Role Value) → d.node.role ≡ r → D (cut_role service seed n m counts r d)
      by Follower r = record { each = w.each }
      by (Leads l) r = acts l l.active r refl

  here : (d : CallHere) → LiveIsDated c service d.node → D d
  here d h = record { each = h }

  pub elect_live : (d : CallHere) → LiveIsDated c service d.node → LiveIsDated c service (call_for service seed n m Elect d).node
  elect_live d h = (elect_works n (service_of service seed) m Dated new_dated more_dated d (here d h)).each

  pub hear_live : (x : Message Value) (d : CallHere) → LiveIsDated c service d.node → LiveIsDated c service (call_for service seed n m (Hear x) d).node
  hear_live x d h = (receive_works n (service_of service seed) m Dated new_dated more_dated x.from x.content d (here d h)).each

  pub cut_live_dated : (d : CallHere) → LiveIsDated c service d.node → LiveIsDated c service (call_for service seed n m Cut d).node
  cut_live_dated d h = (cut_dated (no_limits service d.node) d (here d h)).each

  pub submit_live : (r : Request) (d : CallHere) → LiveIsDated c service d.node → LiveIsDated c service (call_for service seed n m (Submit r) d).node
  submit_live r d h = by (is_active d.node.role)
    where
      by : (t : Bool) → LiveIsDated c service (active_only t d (submit_request service (Some r) d)).node
      by true = h
      by false = h
