-- What the steps of locks keep.
use Rattle.std.proofs.Common.{◌≡◌, ◌≢◌, ◌⊎◌, inl, inr, ⊎_elim, ℕ, ◌+◌, ◌<◌, ◌≤◌, arith, true, List, length, sym, refl, ap, ◌∙◌, subst}
use Rattle.std.specs.Prelude.{pos, Option, Some, None}
use Rattle.std.proofs.Math.Nat.{max-eq_left}
use Rattle.std.proofs.lemmas.Bool.{cases_eq}
use Rattle.rex_syntax.specs.declared.locks.Mode.TheVariants.{Free, Exclusive}
use Rattle.rex_frame.specs.declared.frame.Frame.{Frame}
use Rattle.rex_event.specs.declared.event.Kind.{Kind}
use Rattle.rex_event.specs.declared.event.Event.{Event}
use Rattle.rex_event.specs.declared.event.Kind.TheVariants.{AcqEx, TryOk}
use Rattle.rex_event.specs.Conflict.{named_lock}
use Rattle.rex_event.specs.Order.{Has}
use Rattle.rex_state.specs.Value.{StateValue}
use Rattle.rex_state.specs.Locks.{mode_in_frame}
use Rattle.rex_state.specs.Machine.{locks_allow, next}
use Rattle.rex_state.specs.Start.{start_of}
use Rattle.rex_state.specs.Sound.{mode_at, IsSound}
use Rattle.rex_state.proofs.Sounds.{run_keeps, start_keeps}
use Rattle.rex_state.proofs.Local.{events_are_local}
use Rattle.rex_words.specs.declared.assignment.Assignment.{Assignment}
use Rattle.rex_words.specs.declared.view.Knowledge.{Knowledge}
use Rattle.rex_words.specs.Words.{owner_in, word_of}
use Rattle.rex_words.specs.Stamps.{events_in, greatest_stamp, lane_stamp, lock_stamp, taken_stamp, new_stamp}
use Rattle.rex_words.specs.Recorded.{IsDealt}
use Rattle.rex_words.specs.Own.{value_at}
use Rattle.rex_words.specs.Alone.{service_of, own_event, with_event}
use Rattle.rex_words.specs.Moment.{locks_in, variables_in, lock_word, word_value, guard, IsAssignment, IsKnown, IsOpen, IsOwner, IsCommon}
use Rattle.rex_words.specs.Kept.{with_known}
use Rattle.std.proofs.lemmas.Nat.{div-mul-add}
use Rattle.std.proofs.lemmas.Bool.{cases_lt}
use Rattle.std.proofs.lemmas.Option.{same_Some}
use Rattle.rex_event.specs.declared.event.Kind.TheVariants.{RelEx}
use Rattle.rex_event.specs.Conflict.{named_client}
use Rattle.rex_state.specs.Local.{TakesExclusive}
use Rattle.rex_state.proofs.Local.{sound_states_exclude}
use Rattle.rex_words.specs.Recorded.{is_plain}
use Rattle.rex_words.specs.Words.{stamp_in}
use Rattle.rex_words.specs.Steps.{taking_stamp}
use Rattle.rex_words.specs.Kept.{with_lock}
use Rattle.rex_words.proofs.Recording.{held_before}
use Rattle.rex_words.proofs.Keeping.{value_stays, open_word}
use Rattle.rex_words.proofs.Modes.{IsFull, start_full, run_full, taken_mode, given_mode}
use Rattle.rex_words.proofs.Locking.{get_past, all_open, free≢exclusive, locked}

module _ (r : Assignment) (words : List ℕ) (know : ℕ → Knowledge) (lane : ℕ) (a : IsAssignment r) (wide : locks_in r + variables_in r ≤ length words) (c : IsCommon r words know) (inside : lane < (service_of r).lanes) where
  sound : IsSound (service_of r) c.state
  sound = run_keeps (service_of r) (start_of (service_of r)) c.state (events_in c.history) a.good (start_keeps (service_of r) a.good a.checked) c.recorded.runs

  full : IsFull c.state
  full = run_full (service_of r) a.good (events_in c.history) (start_of (service_of r)) c.state (start_keeps (service_of r) a.good a.checked) c.recorded.runs (start_full (service_of r))

  last_is : lane_stamp c.history lane ≡ greatest_stamp (know lane).list
  last_is = ap greatest_stamp (sym (c.lanes lane inside).list)

  small : (lock : ℕ) → lock < locks_in r → lock < 64
  small lock h = let b = a.good.locks in omega arith

  -- ---- giving a lock up

  module _ (lock : ℕ) (own : StateValue) (there : lock < locks_in r) (stored : (x : ℕ) → x < variables_in r → guard r x ≡ lock → Has x (know lane).stored) (leads : next (service_of r) (know lane).own (own_event lane (know lane) (RelEx lock)) ≡ Some own) where
    abbrev event : Event
    event = own_event lane (know lane) (RelEx lock)

    given : (t : StateValue) → next (service_of r) c.state event ≡ Some t → (l : ℕ) → mode_at t l lock ≡ Free
    given t h l = by (cases_eq l lane)
      where
        by : (l ≡ lane) ⊎ (l ≡ lane → ⊥) → mode_at t l lock ≡ Free
        by (inl q) = subst (λ (m : ℕ). mode_at t m lock ≡ Free) (sym q) (given_mode (service_of r) a.good c.state t event lock sound h full (small lock there) refl)
        by (inr n) = ap (λ (o : Option Frame). mode_in_frame o lock) ((events_are_local (service_of r) c.state t event a.good sound h).others l n) ∙ sound_states_exclude (service_of r) c.state lane l lock sound (λ q. n (sym q)) (held_before (service_of r) a.good c.state t event lock h refl)

    owned : (t : StateValue) → next (service_of r) c.state event ≡ Some t → IsOwner t lock 0
    owned t h = record { small = omega arith; held = λ l n. absurd (n (given t h l)); holds = λ l q. absurd (omega arith) }

    values : (t : StateValue) → next (service_of r) c.state event ≡ Some t → (x : ℕ) → x < variables_in r → guard r x ≡ lock → IsOpen t lock → word_value r words x ≡ value_at t x
    values t h x b g o =
        let w = (c.lanes lane inside).stored x (stored x b g) in
        let held : mode_at c.state lane (guard r x) ≡ Exclusive = subst (λ (k : ℕ). mode_at c.state lane k ≡ Exclusive) (sym g) (held_before (service_of r) a.good c.state t event lock h refl) in
        w.same ∙ ((c.lanes lane inside).own.variables x (λ q. free≢exclusive _ q held) ∙ sym (value_stays (service_of r) c.state t event x a.good sound h (subst (λ (k : ℕ). mode_at t lane k ≡ Free) (sym g) (o lane))))

    released : IsCommon r (with_lock words lock (word_of (greatest_stamp (know lane).list + 1) 0)) (with_known know lane (with_event (know lane) (greatest_stamp (know lane).list + 1) event own))
    released = locked r words know lane (RelEx lock) own lock 0 (greatest_stamp (know lane).list + 1) a wide c inside there refl (record { plain = refl; mine = λ client n. absurd (cc) }) leads refl (record { same = λ x t. let u = t.1 in absurd (cc) })
        (ap (λ (n : ℕ). n + 1) (max-eq_left (omega arith) ∙ last_is)) owned values

  -- ---- taking one

  module _ (kind : Kind) (own : StateValue) (there : (know lane).noted_lock < locks_in r) (takes : (kind ≡ AcqEx (know lane).noted_lock) ⊎ (kind ≡ TryOk (know lane).noted_lock)) (unowned : owner_in (know lane).noted ≡ 0) (found : lock_word words (know lane).noted_lock ≡ (know lane).noted)
      (loads : (x : ℕ) → x < variables_in r → guard r x ≡ (know lane).noted_lock → Has x (know lane).loaded) (leads : next (service_of r) (know lane).own (own_event lane (know lane) kind) ≡ Some own) where
    abbrev lock : ℕ
    lock = (know lane).noted_lock

    abbrev taking : Event
    taking = own_event lane (know lane) kind

    free : IsOpen c.state lock
    free = open_word c.history c.state lock (lock_word words lock) (c.locks lock there) (ap owner_in found ∙ unowned)

    names : named_lock kind ≡ Some lock
    names = ⊎_elim (λ (q : kind ≡ AcqEx lock). ap named_lock q) (λ (q : kind ≡ TryOk lock). ap named_lock q) takes

    dealt : IsDealt (service_of r) taking
    dealt = record { plain = ⊎_elim (λ (q : kind ≡ AcqEx lock). ap is_plain q) (λ (q : kind ≡ TryOk lock). ap is_plain q) takes; mine = λ client n. absurd (none client (sym no_client ∙ n)) }
      where
        no_client : named_client kind ≡ None
        no_client = ⊎_elim (λ (q : kind ≡ AcqEx lock). ap named_client q) (λ (q : kind ≡ TryOk lock). ap named_client q) takes

        none : (n : ℕ) → None ≡ Some n → ⊥
        none n e = cc

    allow : locks_allow kind c.state.lanes ≡ true
    allow = ⊎_elim (λ (q : kind ≡ AcqEx lock). ap (λ (z : Kind). locks_allow z c.state.lanes) q ∙ all_open lock c.state.lanes free) (λ (q : kind ≡ TryOk lock). ap (λ (z : Kind). locks_allow z c.state.lanes) q ∙ all_open lock c.state.lanes free) takes

    before : IsKnown r words c.history c.state lane (know lane)
    before = c.lanes lane inside

    same_value : (x : ℕ) → TakesExclusive taking (guard r x) → value_at (know lane).own x ≡ value_at c.state x
    same_value x t = by (cases_lt x (variables_in r))
      where
        by : (x < variables_in r) ⊎ (variables_in r ≤ x) → value_at (know lane).own x ≡ value_at c.state x
        by (inl b) = (before.loaded x (loads x b (same_Some (guard r x) lock (sym t.0 ∙ names)))).same found
        by (inr b) =
            let l : length (know lane).own.variables ≡ variables_in r = before.own.sound.by.complete.variables in
            let m : length c.state.variables ≡ variables_in r = sound.by.complete.variables in
            get_past (know lane).own.variables x (pos 0) (omega arith) ∙ sym (get_past c.state.variables x (pos 0) (omega arith))

    stamp_is : new_stamp c.history taking ≡ taking_stamp (know lane)
    stamp_is =
        let w = c.locks lock there in
        let t : taken_stamp c.history kind ≡ lock_stamp c.history lock = ⊎_elim (λ (q : kind ≡ AcqEx lock). ap (taken_stamp c.history) q) (λ (q : kind ≡ TryOk lock). ap (taken_stamp c.history) q) takes in
        let s : stamp_in (know lane).noted ≡ lock_stamp c.history lock = ap stamp_in (sym found ∙ w.is) ∙ div-mul-add (lock_stamp c.history lock) 128 w.owner w.holder.small in
        rw (t, s, last_is) refl

    held : (t : StateValue) → next (service_of r) c.state taking ≡ Some t → mode_at t lane lock ≡ Exclusive
    held t h = taken_mode (service_of r) a.good c.state t taking lock sound h full (small lock there) takes

    owned_by : (t : StateValue) → next (service_of r) c.state taking ≡ Some t → IsOwner t lock (lane + 1)
    owned_by t h = record { small = let b = a.good.lanes in omega arith; held = λ l n. only l n (cases_eq l lane); holds = λ l q f. free≢exclusive _ f (subst (λ (m : ℕ). mode_at t m lock ≡ Exclusive) (back l q) (held t h)) }
      where
        back : (l : ℕ) → lane + 1 ≡ l + 1 → lane ≡ l
        back l q = omega arith

        only : (l : ℕ) → mode_at t l lock ≢ Free → (l ≡ lane) ⊎ (l ≡ lane → ⊥) → lane + 1 ≡ l + 1
        only l n (inl q) = ap (λ (m : ℕ). m + 1) (sym q)
        only l n (inr m) = absurd (n (ap (λ (o : Option Frame). mode_in_frame o lock) ((events_are_local (service_of r) c.state t taking a.good sound h).others l m) ∙ free l))

    taken : IsCommon r (with_lock words lock (word_of (taking_stamp (know lane)) (lane + 1))) (with_known know lane (with_event (know lane) (taking_stamp (know lane)) taking own))
    taken = locked r words know lane kind own lock (lane + 1) (taking_stamp (know lane)) a wide c inside there names dealt leads allow (record { same = same_value }) stamp_is owned_by (λ t h x b g o. absurd (free≢exclusive _ (o lane) (held t h)))

pub releases_keep : (r : Assignment) (words : List ℕ) (know : ℕ → Knowledge) (lane lock : ℕ) (own : StateValue) → IsAssignment r → locks_in r + variables_in r ≤ length words → IsCommon r words know → lane < (service_of r).lanes
    → lock < locks_in r → ((x : ℕ) → x < variables_in r → guard r x ≡ lock → Has x (know lane).stored) → next (service_of r) (know lane).own (own_event lane (know lane) (RelEx lock)) ≡ Some own
    → IsCommon r (with_lock words lock (word_of (greatest_stamp (know lane).list + 1) 0)) (with_known know lane (with_event (know lane) (greatest_stamp (know lane).list + 1) (own_event lane (know lane) (RelEx lock)) own))
releases_keep r words know lane lock own a wide c inside there stored leads = released r words know lane a wide c inside lock own there stored leads

pub takes_keep : (r : Assignment) (words : List ℕ) (know : ℕ → Knowledge) (lane : ℕ) (kind : Kind) (own : StateValue) → IsAssignment r → locks_in r + variables_in r ≤ length words → IsCommon r words know → lane < (service_of r).lanes
    → (know lane).noted_lock < locks_in r → (kind ≡ AcqEx (know lane).noted_lock) ⊎ (kind ≡ TryOk (know lane).noted_lock) → owner_in (know lane).noted ≡ 0 → lock_word words (know lane).noted_lock ≡ (know lane).noted
    → ((x : ℕ) → x < variables_in r → guard r x ≡ (know lane).noted_lock → Has x (know lane).loaded) → next (service_of r) (know lane).own (own_event lane (know lane) kind) ≡ Some own
    → IsCommon r (with_lock words (know lane).noted_lock (word_of (taking_stamp (know lane)) (lane + 1))) (with_known know lane (with_event (know lane) (taking_stamp (know lane)) (own_event lane (know lane) kind) own))
takes_keep r words know lane kind own a wide c inside there takes unowned found loads leads = taken r words know lane a wide c inside kind own there takes unowned found loads leads
