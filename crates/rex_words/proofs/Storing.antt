-- What the store of a variable keeps.
use Rattle.std.proofs.Common.{◌≡◌, ◌⊎◌, inl, inr, ⊎_elim, ℕ, ◌+◌, ◌<◌, ◌≤◌, arith, List, length, sym, refl, ap, ◌∙◌, subst}
use Rattle.std.proofs.lemmas.Bool.{cases_eq}
use Rattle.std.proofs.lemmas.List.{get_or-set_same, get_or-set_other}
use Rattle.rex_syntax.specs.declared.locks.Mode.TheVariants.{Free, Exclusive}
use Rattle.rex_event.specs.Order.{Has}
use Rattle.rex_state.specs.declared.lane.Lane.{Lane}
use Rattle.rex_state.specs.Value.{StateValue}
use Rattle.rex_state.specs.Locks.{mode_in_frame}
use Rattle.rex_words.specs.declared.assignment.Assignment.{Assignment}
use Rattle.rex_words.specs.declared.view.Knowledge.{Knowledge}
use Rattle.rex_words.specs.Words.{owner_in}
use Rattle.rex_words.specs.Own.{value_at}
use Rattle.rex_words.specs.Alone.{service_of}
use Rattle.rex_words.specs.Moment.{locks_in, variables_in, lock_word, word_value, guard, IsLoaded, IsStored, IsKnown, IsCommon}
use Rattle.rex_words.specs.Kept.{with_known}
use Rattle.std.specs.Int.{cast_signed}
use mir.Syntax.{w64}
use Rattle.rex_state.specs.Start.{start_of}
use Rattle.rex_state.specs.Sound.{IsSound}
use Rattle.rex_state.specs.Sound.{mode_at}
use Rattle.rex_state.proofs.Sounds.{run_keeps, start_keeps}
use Rattle.rex_state.proofs.Local.{sound_states_exclude}
use Rattle.rex_words.specs.Stamps.{events_in}
use Rattle.rex_words.specs.Moment.{IsAssignment, IsLockWord, IsOpen}
use Rattle.rex_words.specs.Steps.{with_store}
use Rattle.rex_words.specs.Kept.{with_variable}
use Rattle.rex_words.proofs.Keeping.{replaced}
use Rattle.rex_words.proofs.Locking.{free≢exclusive}

module _ (r : Assignment) (words : List ℕ) (know : ℕ → Knowledge) (lane x word : ℕ) (a : IsAssignment r) (wide : locks_in r + variables_in r ≤ length words) (c : IsCommon r words know) (inside : lane < (service_of r).lanes) (there : x < variables_in r)
    (held : mode_at (know lane).own lane (guard r x) ≡ Exclusive) (value : cast_signed w64 word ≡ value_at (know lane).own x) where
  abbrev words' : List ℕ
  words' = with_variable r words x word

  sound : IsSound (service_of r) c.state
  sound = run_keeps (service_of r) (start_of (service_of r)) c.state (events_in c.history) a.good (start_keeps (service_of r) a.good a.checked) c.recorded.runs

  mode_here : (l : ℕ) (h : l < (service_of r).lanes) (lock : ℕ) → mode_at (know l).own l lock ≡ mode_at c.state l lock
  mode_here l h lock = ap (λ (z : Lane). mode_in_frame z.frame lock) (c.lanes l h).own.lane_is

  lock_same : (l : ℕ) → l < locks_in r → lock_word words' l ≡ lock_word words l
  lock_same l h = get_or-set_other words (locks_in r + x) l word 0 (λ q. absurd (omega arith))

  value_other : (y : ℕ) → (y ≡ x → ⊥) → word_value r words' y ≡ word_value r words y
  value_other y n = ap (cast_signed w64) (get_or-set_other words (locks_in r + x) (locks_in r + y) word 0 (λ q. n (omega arith)))

  value_here : word_value r words' x ≡ value_at (know lane).own x
  value_here = ap (cast_signed w64) (get_or-set_same words (locks_in r + x) word 0 (omega arith)) ∙ value

  shared_now : (y : ℕ) → y < variables_in r → IsOpen c.state (guard r y) → word_value r words' y ≡ value_at c.state y
  shared_now y h o = by (cases_eq y x)
    where
      by : (y ≡ x) ⊎ (y ≡ x → ⊥) → word_value r words' y ≡ value_at c.state y
      by (inr n) = value_other y n ∙ c.shared y h o
      by (inl q) = absurd (free≢exclusive _ (subst (λ (z : ℕ). mode_at c.state lane (guard r z) ≡ Free) q (o lane)) (sym (mode_here lane inside (guard r x)) ∙ held))

  loaded_now : (k : Knowledge) (k' : Knowledge) (y : ℕ) → k'.noted_lock ≡ k.noted_lock → k'.noted ≡ k.noted → k'.own ≡ k.own → IsLoaded r words c.state k y → IsLoaded r words' c.state k' y
  loaded_now k k' y e f g l = record {
    there = subst (λ (n : ℕ). n < locks_in r) (sym e) l.there;
    lock = l.lock ∙ sym e;
    unowned = ap owner_in f ∙ l.unowned;
    same = λ w. ap (λ (z : StateValue). value_at z y) g ∙ l.same (sym (lock_same k.noted_lock l.there) ∙ (ap (lock_word words') (sym e) ∙ (w ∙ f)));
  }

  mine : IsKnown r words' c.history c.state lane (with_store (know lane) x)
  mine = record {
    list = k.list;
    own = k.own;
    noted = λ h. subst (λ (n : ℕ). (know lane).noted ≤ n) (sym (lock_same (know lane).noted_lock h)) (k.noted h);
    loaded = λ y h. loaded_now (know lane) (with_store (know lane) x) y refl refl refl (k.loaded y h);
    stored = λ y h. ⊎_elim (λ (q : x ≡ y). subst (IsStored r words' lane (with_store (know lane) x)) q here) (λ (q : Has y (know lane).stored). old y (k.stored y q)) h;
  }
    where
      k : IsKnown r words c.history c.state lane (know lane)
      k = c.lanes lane inside

      here : IsStored r words' lane (with_store (know lane) x) x
      here = record { held = held; same = value_here }

      old : (y : ℕ) → IsStored r words lane (know lane) y → IsStored r words' lane (with_store (know lane) x) y
      old y w = ⊎_elim (λ (q : y ≡ x). subst (IsStored r words' lane (with_store (know lane) x)) (sym q) here) (λ (q : y ≡ x → ⊥). record { held = w.held; same = value_other y q ∙ w.same }) (cases_eq y x)

  rest : (other : ℕ) → other < (service_of r).lanes → (other ≡ lane → ⊥) → IsKnown r words' c.history c.state other (know other)
  rest other h n = record {
    list = k.list;
    own = k.own;
    noted = λ q. subst (λ (m : ℕ). (know other).noted ≤ m) (sym (lock_same (know other).noted_lock q)) (k.noted q);
    loaded = λ y q. loaded_now (know other) (know other) y refl refl refl (k.loaded y q);
    stored = λ y q. let w = k.stored y q in record { held = w.held; same = value_other y (apart y w.held) ∙ w.same };
  }
    where
      k : IsKnown r words c.history c.state other (know other)
      k = c.lanes other h

      apart : (y : ℕ) → mode_at (know other).own other (guard r y) ≡ Exclusive → y ≡ x → ⊥
      apart y m q =
          let there_held : mode_at c.state other (guard r x) ≡ Exclusive = subst (λ (z : ℕ). mode_at c.state other (guard r z) ≡ Exclusive) q (sym (mode_here other h (guard r y)) ∙ m) in
          free≢exclusive _ (sound_states_exclude (service_of r) c.state lane other (guard r x) sound (λ p. n (sym p)) (sym (mode_here lane inside (guard r x)) ∙ held)) there_held

  stored_all : IsCommon r words' (with_known know lane (with_store (know lane) x))
  stored_all = record {
    history = c.history;
    state = c.state;
    recorded = c.recorded;
    locks = λ l h. subst (λ (w : ℕ). IsLockWord c.history c.state l w) (sym (lock_same l h)) (c.locks l h);
    shared = shared_now;
    lanes = λ other h. replaced r words words' know c.history c.state lane (with_store (know lane) x) other mine (rest other h);
  }

pub stores_keep : (r : Assignment) (words : List ℕ) (know : ℕ → Knowledge) (lane x word : ℕ) → IsAssignment r → locks_in r + variables_in r ≤ length words → IsCommon r words know → lane < (service_of r).lanes → x < variables_in r
    → mode_at (know lane).own lane (guard r x) ≡ Exclusive → cast_signed w64 word ≡ value_at (know lane).own x → IsCommon r (with_variable r words x word) (with_known know lane (with_store (know lane) x))
stores_keep r words know lane x word a wide c inside there held value = stored_all r words know lane x word a wide c inside there held value
