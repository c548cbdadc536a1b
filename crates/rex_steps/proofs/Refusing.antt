-- What the model says of a call that a node refuses.
use Rattle.std.proofs.Common.{◌≡◌, ℕ, Bool, true, false, List, [], ◌∷◌, length, Result, Ok, Err, Option, Some, None, IfOk, OnErr, nat_lt, nat_le, refl, sym, ap, subst, ◌∙◌, if◌then◌else◌}
use Rattle.std.specs.Prelude.{◌==◌}
use Rattle.rex_syntax.specs.declared.service.Declarations.{Declarations}
use Rattle.rex_event.specs.declared.event.Event.{Event}
use Rattle.rex_report.specs.declared.effect.Effect.TheVariants as effect
use Rattle.rex_cluster.specs.Records.{Proposal, base, offset, promise, known}
use Rattle.rex_cluster.specs.Quorum.{ballot_above, round_of}
use Rattle.rex_cluster.specs.Node.{Lead, Role, Service, is_active, role_name}
use Rattle.rex_cluster.specs.Node.Role.{Follower, Leads}
use Rattle.rex_syntax.specs.declared.version.Version.{Version}
use Rattle.rex_cluster.specs.Calls.{begin, say, checkpoint, drop_known, elect, replay}
use Rattle.rex_cluster.specs.Values.{Value}
use Rattle.rex_cluster.specs.Lanes.{Here, CallHere, active_only, cut, cut_role, cut_lead, cut_live}
use Rattle.rex_state.specs.Value.{StateValue}
use Rattle.rex_node.specs.declared.refusal.Refusal.{Refusal}
use Rattle.rex_node.specs.declared.refusal.Refusal.TheVariants as why
use Rattle.rex_node.specs.declared.step.Step.{Step}
use Rattle.rex_node.specs.Calls.{IsSpared, RefusesThen, if_active, if_up, refusal_of_lead, refusal_of_none, refusal_of_open}
use Rattle.rex_steps.specs.Steps.{Acts, IsDone, effect_of}

-- ---- refusals

-- what the model's call comes to says of a refusal that is due what is reported of it
abbrev pub Excused : CallHere → ℕ → Here → Option Refusal → Type 0
Excused after number before None = Unit {0}
Excused after number before (Some why.Down) = ⊥
Excused after number before (Some why.OutOfMemory) = Unit {0}
Excused after number before (Some refusal) = after ≡ say (effect_of number refusal) (begin before)

abbrev err_of : Refusal → Result Step Refusal
err_of refusal = Err refusal

module _ (past : List Value) (call : CallHere → CallHere) (number : ℕ) (before after : Here) where
  refused : (refusal : Refusal) → before.up ≡ true → IsSpared (err_of refusal) before after → Excused (call (begin before)) number before (Some refusal) → Acts past call number before after (Err refusal)
  refused why.Down up left says = absurd says
  refused why.OutOfMemory up left says = tt
  refused (why.NotActive role) up left says = record { up = up; same = left; says = says }
  refused (why.Open i) up left says = record { up = up; same = left; says = says }
  refused why.Ended up left says = record { up = up; same = left; says = says }
  refused why.Nothing up left says = record { up = up; same = left; says = says }
  refused (why.Live many) up left says = record { up = up; same = left; says = says }
  refused why.UpToDate up left says = record { up = up; same = left; says = says }
  refused why.Spent up left says = record { up = up; same = left; says = says }
  refused (why.BadSnapshot at) up left says = record { up = up; same = left; says = says }

  refused_late : (refusal : Refusal) (late : Option Refusal) → before.up ≡ true → IsSpared (err_of refusal) before after → RefusesThen None late (err_of refusal) → Excused (call (begin before)) number before late → Acts past call number before after (Err refusal)
  refused_late why.OutOfMemory late up left is says = tt
  refused_late why.Down late up left is says = absurd (subst (Excused (call (begin before)) number before) is says)
  refused_late (why.NotActive role) late up left is says = refused (why.NotActive role) up left (subst (Excused (call (begin before)) number before) is says)
  refused_late (why.Open i) late up left is says = refused (why.Open i) up left (subst (Excused (call (begin before)) number before) is says)
  refused_late why.Ended late up left is says = refused why.Ended up left (subst (Excused (call (begin before)) number before) is says)
  refused_late why.Nothing late up left is says = refused why.Nothing up left (subst (Excused (call (begin before)) number before) is says)
  refused_late (why.Live many) late up left is says = refused (why.Live many) up left (subst (Excused (call (begin before)) number before) is says)
  refused_late why.UpToDate late up left is says = refused why.UpToDate up left (subst (Excused (call (begin before)) number before) is says)
  refused_late why.Spent late up left is says = refused why.Spent up left (subst (Excused (call (begin before)) number before) is says)
  refused_late (why.BadSnapshot at) late up left is says = refused (why.BadSnapshot at) up left (subst (Excused (call (begin before)) number before) is says)

  was_down : (result : Result Step Refusal) → before.up ≡ false → result ≡ Err why.Down → IsSpared result before after → Acts past call number before after result
  was_down result down is left =
      subst (Acts past call number before after) (sym is) (record { down = down; same = subst (λ (r : Result Step Refusal). IsSpared r before after) is left })

  acts_up : (due late : Option Refusal) (result : Result Step Refusal) → before.up ≡ true → RefusesThen due late result → IsSpared result before after → Excused (call (begin before)) number before due → (due ≡ None → Excused (call (begin before)) number before late) → IfOk result (IsDone past call before after) → Acts past call number before after result
  acts_up (Some refusal) late result up is left says later done =
      subst (Acts past call number before after) (sym is) (refused refusal up (subst (λ (r : Result Step Refusal). IsSpared r before after) is left) says)
  acts_up None late (Ok step) up is left says later done = done
  acts_up None late (Err refusal) up is left says later done = refused_late refusal late up left is (later refl)

  -- a call comes to what it is due, or is done
  pub acts_then : (due late : Option Refusal) (result : Result Step Refusal) → RefusesThen (if_up before.up due) late result → IsSpared result before after → Excused (call (begin before)) number before due → (due ≡ None → Excused (call (begin before)) number before late) → (before.up ≡ true → IfOk result (IsDone past call before after)) → Acts past call number before after result
  acts_then due late result is left says later done = by before.up refl is
    where
      by : (up : Bool) → before.up ≡ up → RefusesThen (if_up up due) late result → Acts past call number before after result
      by true e h = acts_up due late result e h left says later (done e)
      by false e h = was_down result e h left

-- ---- elections

module _ (number : ℕ) (h : Here) where
  pub elect_excused : (n : ℕ) (sv : Service Value StateValue) → Excused (elect n sv number (begin h)) number h (if nat_lt 4294967296 (round_of (ballot_above number (promise h.log))) then Some why.Spent else None)
  elect_excused n sv = by (nat_lt 4294967296 (round_of (ballot_above number (promise h.log)))) refl
    where
      by : (b : Bool) → nat_lt 4294967296 (round_of (ballot_above number (promise h.log))) ≡ b → Excused (elect n sv number (begin h)) number h (if b then Some why.Spent else None)
      by true e = rw e refl
      by false e = tt

-- ---- cuts

module _ (service : Declarations) (seed n number : ℕ) (counts : List ℕ) (h : Here) where
  by_role : (role : Role Value) → h.role ≡ role → cut service seed n number counts (begin h) ≡ cut_role service seed n number counts role (begin h)
  by_role role e = ap (λ (r : Role Value). cut_role service seed n number counts r (begin h)) e

  by_lead : (l : Lead Value) (b : Bool) (q : Option (Proposal Value)) → h.role ≡ Leads l → l.active ≡ b → l.proposal ≡ q → cut service seed n number counts (begin h) ≡ active_only b (begin h) (cut_lead service seed n number counts l q (begin h))
  by_lead l b q e active open_one =
      by_role (Leads l) e
      ∙ ap (λ (a : Bool). active_only a (begin h) (cut_lead service seed n number counts l l.proposal (begin h))) active
      ∙ ap (λ (o : Option (Proposal Value)). active_only b (begin h) (cut_lead service seed n number counts l o (begin h))) open_one

  not_active : (role : Role Value) → h.role ≡ role → say (effect.NotActive (role_name h.role)) (begin h) ≡ say (effect.NotActive (role_name role)) (begin h)
  not_active role e = ap (λ (r : Role Value). say (effect.NotActive (role_name r)) (begin h)) e

  -- no instance is left
  ended : (l : Lead Value) (b : Bool) → h.role ≡ Leads l → l.active ≡ true → l.proposal ≡ None → nat_le 65535 (length (known h.log)) ≡ b → Excused (cut service seed n number counts (begin h)) number h (if b then Some why.Ended else None)
  ended l false e active open_one left = tt
  ended l true e active open_one left = by_lead l true None e active open_one ∙ rw left refl

  open_one : (l : Lead Value) (q : Option (Proposal Value)) → h.role ≡ Leads l → l.active ≡ true → l.proposal ≡ q → Excused (cut service seed n number counts (begin h)) number h (refusal_of_open q (length (known h.log)))
  open_one l (Some p) e active is = by_lead l true (Some p) e active is
  open_one l None e active is = ended l (nat_le 65535 (length (known h.log))) e active is refl

  led : (l : Lead Value) (b : Bool) → h.role ≡ Leads l → l.active ≡ b → Excused (cut service seed n number counts (begin h)) number h (if b then refusal_of_open l.proposal (length (known h.log)) else Some (why.NotActive (role_name (Leads l))))
  led l true e active = open_one l l.proposal e active refl
  led l false e active = by_lead l false l.proposal e active refl ∙ not_active (Leads l) e

  pub cut_excused : Excused (cut service seed n number counts (begin h)) number h (if_active h.role (refusal_of_lead h.role (length (known h.log))))
  cut_excused = by h.role refl
    where
      by : (role : Role Value) → h.role ≡ role → Excused (cut service seed n number counts (begin h)) number h (if_active role (refusal_of_lead role (length (known h.log))))
      by Follower e = by_role Follower e ∙ not_active Follower e
      by (Leads l) e = led l l.active e refl

  -- where nothing else is due, the model says what it says of a leader without an open proposal, where an instance is left
  pub cut_late : (late : Option Refusal) → ((l : Lead Value) → nat_le 65535 (length (known h.log)) ≡ false → Excused (cut_lead service seed n number counts l None (begin h)) number h late) → if_active h.role (refusal_of_lead h.role (length (known h.log))) ≡ None → Excused (cut service seed n number counts (begin h)) number h late
  cut_late late says = by h.role refl
    where
      none : (l : Lead Value) (b : Bool) → h.role ≡ Leads l → l.active ≡ true → l.proposal ≡ None → nat_le 65535 (length (known h.log)) ≡ b → ◌≡◌ {A = Option Refusal} (if b then Some why.Ended else None) None → Excused (cut service seed n number counts (begin h)) number h late
      none l true e active is left due = absurd (cc)
      none l false e active is left due = subst (λ (d : CallHere). Excused d number h late) (sym (by_lead l true None e active is)) (says l left)

      unopened : (l : Lead Value) (q : Option (Proposal Value)) → h.role ≡ Leads l → l.active ≡ true → l.proposal ≡ q → refusal_of_open q (length (known h.log)) ≡ None → Excused (cut service seed n number counts (begin h)) number h late
      unopened l (Some p) e active is due = absurd (cc)
      unopened l None e active is due = none l (nat_le 65535 (length (known h.log))) e active is refl due

      leads : (l : Lead Value) (b : Bool) → h.role ≡ Leads l → l.active ≡ b → ◌≡◌ {A = Option Refusal} (if b then refusal_of_open l.proposal (length (known h.log)) else Some (why.NotActive (role_name (Leads l)))) None → Excused (cut service seed n number counts (begin h)) number h late
      leads l true e active due = unopened l l.proposal e active refl due
      leads l false e active due = absurd (cc)

      by : (role : Role Value) → h.role ≡ role → if_active role (refusal_of_lead role (length (known h.log))) ≡ None → Excused (cut service seed n number counts (begin h)) number h late
      by Follower e due = absurd (cc)
      by (Leads l) e due = leads l l.active e refl due

  -- such a leader has nothing to propose where no live event is below the cut
  pub nothing_below : (cut_at : List ℕ) (events : List Event) (l : Lead Value) → nat_le 65535 (length (known h.log)) ≡ false → Excused (if nat_le 65535 (length (known h.log)) then say effect.Ended (begin h) else cut_live service seed n number cut_at l events (begin h)) number h (refusal_of_none events)
  nothing_below cut_at [] l left = rw left refl
  nothing_below cut_at (e ∷ es) l left = tt

-- ---- replays and checkpoints

module _ (number : ℕ) (h : Here) where
  pub replay_excused : Excused (replay number (begin h)) number h (if is_active h.role then Some why.UpToDate else if h.replayed == length (known h.log) then Some why.UpToDate else None)
  replay_excused = by (is_active h.role) refl (h.replayed == length (known h.log)) refl
    where
      by : (b : Bool) → is_active h.role ≡ b → (c : Bool) → (h.replayed == length (known h.log)) ≡ c → Excused (replay number (begin h)) number h (if b then Some why.UpToDate else if c then Some why.UpToDate else None)
      by true e c f = rw e refl
      by false e true f = rw (e, f) refl
      by false e false f = tt

  pub checkpoint_excused : (version : Version) (sv : Service Value StateValue) → Excused (checkpoint version sv number (begin h)) number h (if h.replayed == base h.log then Some why.Nothing else if nat_lt 0 (length h.work.live) then Some (why.Live (length h.work.live)) else None)
  checkpoint_excused version sv = by (h.replayed == base h.log) refl (nat_lt 0 (length h.work.live)) refl
    where
      by : (b : Bool) → (h.replayed == base h.log) ≡ b → (c : Bool) → nat_lt 0 (length h.work.live) ≡ c → Excused (checkpoint version sv number (begin h)) number h (if b then Some why.Nothing else if c then Some (why.Live (length h.work.live)) else None)
      by true e c f = rw e refl
      by false e true f = rw (e, f) refl
      by false e false f = tt

  pub drop_excused : Excused (drop_known number (begin h)) number h (if base h.log == offset h.log then Some why.Nothing else None)
  drop_excused = by (base h.log == offset h.log) refl
    where
      by : (b : Bool) → (base h.log == offset h.log) ≡ b → Excused (drop_known number (begin h)) number h (if b then Some why.Nothing else None)
      by true e = rw e refl
      by false e = tt

-- ---- who is refused

pub spared_if : {A B : Type 0} (result : Result A Refusal) (before after : B) → OnErr result (after ≡ before) → IsSpared result before after
spared_if (Ok x) before after same = tt
spared_if (Err why.OutOfMemory) before after same = tt
spared_if (Err why.Down) before after same = same
spared_if (Err (why.NotActive role)) before after same = same
spared_if (Err (why.Open i)) before after same = same
spared_if (Err why.Ended) before after same = same
spared_if (Err why.Nothing) before after same = same
spared_if (Err (why.Live many)) before after same = same
spared_if (Err why.UpToDate) before after same = same
spared_if (Err why.Spent) before after same = same
spared_if (Err (why.BadSnapshot at)) before after same = same
