-- What a busy lane of plain locks stands at, and what it can do there by its own state.
use Rattle.std.proofs.Common.{◌≡◌, ◌≢◌, ◌⊎◌, inl, inr, ℕ, zero, suc, ◌<◌, arith, Bool, true, false, List, [], ◌∷◌, length, drop, refl, ap, sym, ◌∙◌, subst}
use Rattle.std.specs.Prelude.{Option, Some, not, slice_index_or}
use Rattle.std.specs.List.{list_all}
use Rattle.std.proofs.lemmas.Bool.{and_parts, and_from, eq-eqb, cases_eq}
use Rattle.std.proofs.lemmas.Option.{slice_get_within}
use Rattle.rex_syntax.specs.declared.line.Line.{Line}
use Rattle.rex_syntax.specs.declared.line.Line.TheVariants.{Acquire, Release, Try, Wait}
use Rattle.rex_syntax.specs.declared.service.Condition.{Condition}
use Rattle.rex_syntax.specs.declared.locks.Mode.{Mode}
use Rattle.rex_syntax.specs.declared.locks.Mode.TheVariants.{Free, Shared, Exclusive}
use Rattle.rex_syntax.specs.Locks.{is_free, is_exclusive, mode_of}
use Rattle.rex_syntax.specs.Service.{LineNames}
use Rattle.rex_frame.specs.declared.frame.Frame.{Frame}
use Rattle.rex_frame.specs.Phases.{is_running}
use Rattle.rex_frame.proofs.Held.{only_if_true}
use Rattle.rex_event.specs.declared.event.Kind.{Kind}
use Rattle.rex_event.specs.declared.event.Kind.TheVariants as kind
use Rattle.rex_state.specs.Value.{StateValue}
use Rattle.rex_state.specs.Lines.{line_of, locals_of, is_acquire, is_release, is_try}
use Rattle.rex_state.specs.Locks.{mode_in_frame, is_free as no_holder}
use Rattle.rex_state.specs.Semaphores.{semaphores_allow}
use Rattle.rex_state.specs.Machine.{frame_at, can_go, own_can, locks_allow, queues_allow, client_allows, after, next}
use Rattle.rex_state.specs.Flows.{CheckedFlows}
use Rattle.rex_state.specs.Sound.{FrameFits, Fits, FramePlaced, Placed, IsWaiting, with_flows, mode_at}
use Rattle.rex_state.proofs.Fits.{IsRight, may_line}
use Rattle.rex_state.proofs.Keep.{next_from}
use Rattle.rex_state.proofs.Names.{frame_in, names_line}
use Rattle.rex_state.proofs.Sounds.{right_flows}
use Rattle.rex_record.specs.Turn.{event_at}
use Rattle.rex_words.specs.declared.assignment.Assignment.{Assignment}
use Rattle.rex_words.specs.declared.seat.WordSeat.{WordSeat}
use Rattle.rex_words.specs.Alone.{service_of}
use Rattle.rex_words.specs.Moment.{locks_in, IsAssignment}
use Rattle.rex_words.specs.Seats.{IsLaneOf}
use Rattle.rex_words.specs.Turns.{StandsAt}
use Rattle.rex_words.proofs.Budget.{acquire_is, release_is, try_is}
use Rattle.rex_words.proofs.Locking.{all_open}

drop_free : (modes : List Mode) (k : ℕ) → list_all is_free (drop k modes) ≡ true → slice_index_or modes k Free ≡ Free
drop_free [] k h = refl
drop_free (x ∷ xs) zero h = free_is x (and_parts _ _ h).0
  where
    free_is : (m : Mode) → is_free m ≡ true → m ≡ Free
    free_is Free h = refl
    free_is Shared h = absurd (cc)
    free_is Exclusive h = absurd (cc)
drop_free (x ∷ xs) (suc k) h = drop_free xs k h

free_mode_is : (m : Mode) → is_free m ≡ true → m ≡ Free
free_mode_is Free h = refl
free_mode_is Shared h = absurd (cc)
free_mode_is Exclusive h = absurd (cc)

held_not : (m : Mode) → not (is_free m) ≡ true → m ≢ Free
held_not Free h e = absurd (cc)
held_not Shared h e = cc
held_not Exclusive h e = cc

module _ (r : Assignment) (a : IsAssignment r) where
  no_condition : (condition : ℕ) → condition < length (service_of r).conditions → ⊥
  no_condition condition h = let e : length (service_of r).conditions ≡ 0 = ap (λ (l : List Condition). length l) a.no_conditions in absurd (omega arith)

  module _ (m : WordSeat) (l : IsLaneOf r m) where
    abbrev p : CheckedFlows
    p = with_flows (service_of r) l.sound.flows

    chk : IsRight p
    chk = right_flows (service_of r) m.state a.good l.sound

    pub fits_at : (f : Frame) → frame_at m.state m.lane ≡ Some f → FrameFits p f
    fits_at f busy = subst (Fits p) busy (l.sound.by.fits m.lane)

    placed_at : (f : Frame) → frame_at m.state m.lane ≡ Some f → FramePlaced (service_of r) f
    placed_at f busy = subst (Placed (service_of r)) busy (l.sound.by.placed.each m.lane)

    module _ (f : Frame) (busy : frame_at m.state m.lane ≡ Some f) where
      names_at : (line : Line) → line_of (service_of r) f ≡ line → LineNames (service_of r) (locals_of (service_of r) f.handler) line
      names_at line i = names_line (service_of r) a.good f line (frame_in p f (fits_at f busy)) i

      no_waiting : IsWaiting (service_of r) f → ⊥
      no_waiting w = no_condition w.condition (names_at (Wait w.condition w.test) w.line).0

      running_by : (b : Bool) → is_running f.phase ≡ b → b ≡ true
      running_by true e = refl
      running_by false e = absurd (no_waiting ((placed_at f busy).waits e))

      pub running : is_running f.phase ≡ true
      running = running_by (is_running f.phase) refl

      mode_here : (lock : ℕ) → mode_at m.state m.lane lock ≡ mode_of f.held lock
      mode_here lock = ap (λ (o : Option Frame). mode_in_frame o lock) busy

      acquire_free : (lock : ℕ) → line_of (service_of r) f ≡ Acquire lock → mode_of f.held lock ≡ Free
      acquire_free lock i = let d = may_line p chk f (Acquire lock) (fits_at f busy) running i in drop_free f.held.modes lock (only_if_true _ _ _ d.0 d.1)

      try_free : (lock busy' : ℕ) → line_of (service_of r) f ≡ Try lock busy' → mode_of f.held lock ≡ Free
      try_free lock busy' i = let d = may_line p chk f (Try lock busy') (fits_at f busy) running i in free_mode_is _ (only_if_true _ _ _ d.0 d.1)

      release_held : (lock : ℕ) → line_of (service_of r) f ≡ Release lock → mode_of f.held lock ≡ Exclusive
      release_held lock i =
          let d = may_line p chk f (Release lock) (fits_at f busy) running i in
          let held : mode_of f.held lock ≢ Free = held_not _ (only_if_true _ _ _ d.0 d.1) in
          sym (mode_here lock) ∙ l.exclusive lock (λ e. held (sym (mode_here lock) ∙ e))

      -- where the lane doesn't hold a lock, none does in its own state
      open_own : (lock : ℕ) → mode_of f.held lock ≡ Free → no_holder lock m.state.lanes ≡ true
      open_own lock e = all_open lock m.state.lanes (λ other. by other (cases_eq other m.lane))
        where
          by : (other : ℕ) → (other ≡ m.lane) ⊎ (other ≡ m.lane → ⊥) → mode_in_frame (frame_at m.state other) lock ≡ Free
          by other (inl q) = ap (λ (x : ℕ). mode_at m.state x lock) q ∙ (mode_here lock ∙ e)
          by other (inr n) = ap (λ (o : Option Frame). mode_in_frame o lock) (l.idle other n)

      -- an event that the lane can do by its frame, its queues and its clients, and whose locks are free
      pub does : (k : Kind) → can_go (service_of r) k (line_of (service_of r) f) f m.state.variables ≡ true → locks_allow k m.state.lanes ≡ true → queues_allow k m.lane m.state.queues ≡ true → semaphores_allow k m.state.semaphores ≡ true → client_allows k m.state.clients ≡ true
          → next (service_of r) m.state (event_at m.state m.lane k) ≡ Some (after (service_of r) m.lane k m.state)
      does k can locks queues semaphores client = next_from (service_of r) m.state (event_at m.state m.lane k) (eq-eqb _ _ refl) record {
        there = let t = l.there in omega (arith, l.sound.by.complete.lanes);
        own = subst (λ (o : Option Frame). own_can (service_of r) k o m.state.variables ≡ true) (sym busy) can;
        locks = locks;
        queues = queues;
        semaphores = semaphores;
        client = client;
      }

    pub record CanDo (k : Kind) : Type 0 where
      pub state : StateValue
      pub leads : next (service_of r) m.state (event_at m.state m.lane k) ≡ Some state

    -- at an acquire the lane can take the lock, which it doesn't hold
    pub can_acquire : (lock : ℕ) → StandsAt r m is_acquire lock → CanDo (kind.AcqEx lock)
    can_acquire lock s = record { state = after (service_of r) m.lane (kind.AcqEx lock) m.state; leads = does s.frame s.busy (kind.AcqEx lock) (and_from _ _ (running s.frame s.busy) s.at) (open_own s.frame s.busy lock (acquire_free s.frame s.busy lock (acquire_is _ lock s.at))) refl refl refl }

    pub can_try : (lock : ℕ) → StandsAt r m is_try lock → CanDo (kind.TryOk lock)
    can_try lock s = record { state = after (service_of r) m.lane (kind.TryOk lock) m.state; leads = does s.frame s.busy (kind.TryOk lock) (and_from _ _ (running s.frame s.busy) s.at) (let t = try_is _ lock s.at in open_own s.frame s.busy lock (try_free s.frame s.busy lock t.0 t.1)) refl refl refl }

    pub can_miss : (lock : ℕ) → StandsAt r m is_try lock → CanDo (kind.TryBusy lock)
    can_miss lock s = record { state = after (service_of r) m.lane (kind.TryBusy lock) m.state; leads = does s.frame s.busy (kind.TryBusy lock) (and_from _ _ (running s.frame s.busy) s.at) refl refl refl refl }

    pub can_release : (lock : ℕ) → StandsAt r m is_release lock → CanDo (kind.RelEx lock)
    can_release lock s = record {
      state = after (service_of r) m.lane (kind.RelEx lock) m.state;
      leads = does s.frame s.busy (kind.RelEx lock) (and_from _ _ (running s.frame s.busy) (and_from _ _ s.at (ap is_exclusive (release_held s.frame s.busy lock (release_is _ lock s.at))))) refl refl refl refl;
    }

    -- the lane doesn't hold a lock that it is to take, and holds one that it is to give up
    pub free_at_acquire : (lock : ℕ) → StandsAt r m is_acquire lock → mode_at m.state m.lane lock ≡ Free
    free_at_acquire lock s = mode_here s.frame s.busy lock ∙ acquire_free s.frame s.busy lock (acquire_is _ lock s.at)

    pub free_at_try : (lock : ℕ) → StandsAt r m is_try lock → mode_at m.state m.lane lock ≡ Free
    free_at_try lock s = let t = try_is _ lock s.at in mode_here s.frame s.busy lock ∙ try_free s.frame s.busy lock t.0 t.1

    pub held_at_release : (lock : ℕ) → StandsAt r m is_release lock → mode_at m.state m.lane lock ≡ Exclusive
    held_at_release lock s = mode_here s.frame s.busy lock ∙ release_held s.frame s.busy lock (release_is _ lock s.at)

    -- the lock is there
    pub acquire_there : (lock : ℕ) → StandsAt r m is_acquire lock → lock < locks_in r
    acquire_there lock s = names_at s.frame s.busy (Acquire lock) (acquire_is _ lock s.at)

    pub try_there : (lock : ℕ) → StandsAt r m is_try lock → lock < locks_in r
    try_there lock s = let t = try_is _ lock s.at in let n = names_at s.frame s.busy (Try lock t.0) t.1 in slice_get_within (service_of r).locks lock n.found n.there

    pub release_there : (lock : ℕ) → StandsAt r m is_release lock → lock < locks_in r
    release_there lock s = names_at s.frame s.busy (Release lock) (release_is _ lock s.at)
