-- In what mode a lane holds a lock after an event that takes it or gives it up.
use Rattle.std.proofs.Common.{◌≡◌, ◌⊎◌, inl, inr, ℕ, ◌<◌, true, List, [], ◌∷◌, length, sym, refl, ap, ◌∙◌, subst}
use Rattle.std.specs.Prelude.{ℤ, zero, suc, Option, Some, None, slice_index_or, replicate}
use Rattle.rex_state.specs.Start.{start_of}
use Rattle.std.proofs.lemmas.Bool.{cases_eq}
use Rattle.std.proofs.lemmas.List.{get_or-set_same, length-set}
use Rattle.rex_syntax.specs.declared.service.Declarations.{Declarations}
use Rattle.rex_syntax.specs.declared.locks.Mode.TheVariants.{Free, Exclusive}
use Rattle.rex_syntax.specs.Locks.{mode_of}
use Rattle.rex_syntax.specs.Service.{IsService}
use Rattle.rex_frame.specs.declared.frame.Frame.{Frame}
use Rattle.rex_event.specs.declared.event.Kind.{Kind}
use Rattle.rex_event.specs.declared.event.Event.{Event}
use Rattle.rex_event.specs.declared.event.Kind.TheVariants.{Begin, AcqEx, AcqSh, RelEx, RelSh, TryOk, Wait, Wake, Reply}
use Rattle.rex_state.specs.Value.{StateValue}
use Rattle.rex_state.specs.Own.{started}
use Rattle.rex_state.specs.Machine.{no_lane, frame_at, own_can, next, run}
use Rattle.rex_state.specs.Sound.{mode_at, IsSound}
use Rattle.rex_state.specs.Touched.{held_in, held_at}
use Rattle.rex_state.proofs.Keep.{next_is}
use Rattle.rex_state.proofs.Run.{run-first}
use Rattle.rex_state.proofs.Sounds.{next_keeps}
use Rattle.rex_state.proofs.Local.{events_are_local}
use Rattle.rex_state.proofs.Touched.{mode_held, lines_keep}

-- each lane's lockset has a mode for each of 64 locks
abbrev pub IsFull : StateValue → Type 0
IsFull s = (lane : ℕ) → length (held_at s lane).modes ≡ 64

started_full : (service : Declarations) (kind : Kind) (o : Option Frame) → length (held_in o).modes ≡ 64 → length (held_in (started service kind o)).modes ≡ 64
started_full service (Begin client sequence handler arguments) o h = refl
started_full service (Reply client value) o h = refl
started_full service (AcqEx lock) (Some f) h = length-set f.held.modes lock Exclusive ∙ h
started_full service (AcqSh lock) (Some f) h = length-set f.held.modes lock _ ∙ h
started_full service (RelEx lock) (Some f) h = length-set f.held.modes lock Free ∙ h
started_full service (RelSh lock) (Some f) h = length-set f.held.modes lock Free ∙ h
started_full service (TryOk lock) (Some f) h = length-set f.held.modes lock Exclusive ∙ h
started_full service (Wait condition lock) (Some f) h = length-set f.held.modes lock Free ∙ h
started_full service (Wake condition lock) (Some f) h = length-set f.held.modes lock Exclusive ∙ h
started_full service _ (Some f) h = h
started_full service _ None h = h

idle_at : (n l : ℕ) → (slice_index_or (replicate n no_lane) l no_lane).frame ≡ None
idle_at zero l = refl
idle_at (suc n) zero = refl
idle_at (suc n) (suc l) = idle_at n l

-- at the start each lane is idle
pub start_idle : (service : Declarations) (lane : ℕ) → frame_at (start_of service) lane ≡ None
start_idle service lane = idle_at service.lanes lane

-- so each lockset is full
pub start_full : (service : Declarations) → IsFull (start_of service)
start_full service lane = subst (λ (z : Option Frame). length (held_in z).modes ≡ 64) (sym (start_idle service lane)) refl

module _ (service : Declarations) (good : IsService service) where
  pub full_after : (s t : StateValue) (e : Event) → IsSound service s → next service s e ≡ Some t → IsFull s → IsFull t
  full_after s t e sound h full lane = by (cases_eq lane e.lane)
    where
      by : (lane ≡ e.lane) ⊎ (lane ≡ e.lane → ⊥) → length (held_at t lane).modes ≡ 64
      by (inr n) = ap (λ (o : Option Frame). length (held_in o).modes) ((events_are_local service s t e good sound h).others lane n) ∙ full lane
      by (inl q) = subst (λ (l : ℕ). length (held_at t l).modes ≡ 64) (sym q) (rw (lines_keep service s t e good sound h) (started_full service e.kind (frame_at s e.lane) (full e.lane)))

  pub run_full : (es : List Event) (s t : StateValue) → IsSound service s → run service s es ≡ Some t → IsFull s → IsFull t
  run_full [] s t sound r full = let e : Some s ≡ Some t = r in subst IsFull (same s t e) full
    where
      same : (a b : StateValue) → Some a ≡ Some b → a ≡ b
      same a b e = cc
  run_full (e ∷ es) s t sound r full = let f = run-first service s t e es r in run_full es f.0 t (next_keeps service s f.0 e good sound f.1) f.2 (full_after s f.0 e sound f.1 full)

  takes_mode : (kind : Kind) (lock : ℕ) (o : Option Frame) (vs : List ℤ) → (kind ≡ AcqEx lock) ⊎ (kind ≡ TryOk lock) → own_can service kind o vs ≡ true → length (held_in o).modes ≡ 64 → lock < 64 → mode_of (held_in (started service kind o)) lock ≡ Exclusive
  takes_mode kind lock None vs (inl e) c l b = let w : own_can service (AcqEx lock) None vs ≡ true = subst (λ (z : Kind). own_can service z None vs ≡ true) e c in absurd (cc)
  takes_mode kind lock None vs (inr e) c l b = let w : own_can service (TryOk lock) None vs ≡ true = subst (λ (z : Kind). own_can service z None vs ≡ true) e c in absurd (cc)
  takes_mode kind lock (Some f) vs (inl e) c l b = subst (λ (z : Kind). mode_of (held_in (started service z (Some f))) lock ≡ Exclusive) (sym e) (get_or-set_same f.held.modes lock Exclusive Free (subst (λ (n : ℕ). lock < n) (sym l) b))
  takes_mode kind lock (Some f) vs (inr e) c l b = subst (λ (z : Kind). mode_of (held_in (started service z (Some f))) lock ≡ Exclusive) (sym e) (get_or-set_same f.held.modes lock Exclusive Free (subst (λ (n : ℕ). lock < n) (sym l) b))

  gives_mode : (kind : Kind) (lock : ℕ) (o : Option Frame) (vs : List ℤ) → kind ≡ RelEx lock → own_can service kind o vs ≡ true → length (held_in o).modes ≡ 64 → lock < 64 → mode_of (held_in (started service kind o)) lock ≡ Free
  gives_mode kind lock None vs e c l b = let w : own_can service (RelEx lock) None vs ≡ true = subst (λ (z : Kind). own_can service z None vs ≡ true) e c in absurd (cc)
  gives_mode kind lock (Some f) vs e c l b = subst (λ (z : Kind). mode_of (held_in (started service z (Some f))) lock ≡ Free) (sym e) (get_or-set_same f.held.modes lock Free Free (subst (λ (n : ℕ). lock < n) (sym l) b))

  module _ (s t : StateValue) (e : Event) (lock : ℕ) (sound : IsSound service s) (h : next service s e ≡ Some t) (full : IsFull s) (small : lock < 64) where
    by_lines : mode_at t e.lane lock ≡ mode_of (held_in (started service e.kind (frame_at s e.lane))) lock
    by_lines = mode_held (frame_at t e.lane) lock ∙ rw (lines_keep service s t e good sound h) refl

    -- a lane holds a lock exclusively that it took
    pub taken_mode : (e.kind ≡ AcqEx lock) ⊎ (e.kind ≡ TryOk lock) → mode_at t e.lane lock ≡ Exclusive
    taken_mode k = by_lines ∙ takes_mode e.kind lock (frame_at s e.lane) s.variables k (next_is service s e t h).enabled.own (full e.lane) small

    -- and doesn't hold one that it gave up
    pub given_mode : e.kind ≡ RelEx lock → mode_at t e.lane lock ≡ Free
    given_mode k = by_lines ∙ gives_mode e.kind lock (frame_at s e.lane) s.variables k (next_is service s e t h).enabled.own (full e.lane) small
