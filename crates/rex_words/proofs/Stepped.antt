-- What a step on a word asks of a seat, in the terms of its assignment.
use Rattle.std.proofs.Common.{◌≡◌, ◌⊎◌, ℕ, ◌+◌, ◌<◌, ◌≤◌, length, subst}
use Rattle.std.specs.Prelude.{nat_eq, Some}
use Rattle.std.specs.Int.{cast_signed}
use mir.Syntax.{w64}
use prog.Atomic.{either}
use mathlib.Core.Option.{none}
use Rattle.atomic_table.specs.Table.{Me, step, Allows}
use Rattle.rex_syntax.specs.declared.locks.Mode.TheVariants.{Free, Exclusive}
use Rattle.rex_event.specs.declared.event.Kind.{Kind}
use Rattle.rex_event.specs.declared.event.Kind.TheVariants.{AcqEx, RelEx, TryOk, TryBusy}
use Rattle.rex_event.specs.Order.{Has}
use Rattle.rex_state.specs.Value.{StateValue}
use Rattle.rex_state.specs.Machine.{next}
use Rattle.rex_state.specs.Sound.{mode_at}
use Rattle.rex_words.specs.declared.assignment.Assignment.{Assignment}
use Rattle.rex_words.specs.declared.view.Knowledge.{Knowledge}
use Rattle.rex_words.specs.declared.view.View.{View}
use Rattle.rex_words.specs.declared.view.Role.TheVariants.{Lane}
use Rattle.rex_words.specs.Words.{owner_in, word_of}
use Rattle.rex_words.specs.Stamps.{greatest_stamp}
use Rattle.rex_words.specs.Own.{value_at}
use Rattle.rex_words.specs.Alone.{service_of, own_event}
use Rattle.rex_words.specs.Moment.{locks_in, variables_in, guard, IsMoment}
use Rattle.rex_words.specs.Steps.{looked, tried, fetched, taking_stamp, taken, published, released}
use Rattle.rex_words.proofs.Keeps.{HoldsTo, looks, tries, fetches, takes, publishes, releases}

module _ (r : Assignment) (slots id : ℕ) (me : Me (Unit {0}) View) (role : me.0.role ≡ Lane) (key : me.0.key ≡ r) where
  pub looks_in : (lock : ℕ) → lock < locks_in r → (first : Knowledge) → HoldsTo r me.0 first → Allows (IsMoment r) slots id me lock (λ n. n) (looked (step slots lock 0 0 none) me)
  looks_in = subst (λ (z : Assignment). (lock : ℕ) → lock < locks_in z → (first : Knowledge) → HoldsTo z me.0 first → Allows (IsMoment z) slots id me lock (λ n. n) (looked (step slots lock 0 0 none) me)) key (looks slots id me role)

  pub tries_in : (lock : ℕ) → lock < locks_in r → (first : Knowledge) → HoldsTo r me.0 first → (own : StateValue) → next (service_of r) first.own (own_event me.0.lane first (TryBusy lock)) ≡ Some own → length first.list + 1 ≤ 1000000
      → Allows (IsMoment r) slots id me lock (λ n. n) (tried (step slots lock 0 0 none) me)
  tries_in = subst
      (λ (z : Assignment). (lock : ℕ) → lock < locks_in z → (first : Knowledge) → HoldsTo z me.0 first → (own : StateValue) → next (service_of z) first.own (own_event me.0.lane first (TryBusy lock)) ≡ Some own → length first.list + 1 ≤ 1000000
      → Allows (IsMoment z) slots id me lock (λ n. n) (tried (step slots lock 0 0 none) me)) key (tries slots id me role)

  pub fetches_in : (x : ℕ) → x < variables_in r → me.0.knows.noted_lock < locks_in r → guard r x ≡ me.0.knows.noted_lock → owner_in me.0.knows.noted ≡ 0 → mode_at me.0.knows.own me.0.lane me.0.knows.noted_lock ≡ Free
      → Allows (IsMoment r) slots id me (locks_in r + x) (λ n. n) (fetched (step slots (locks_in r + x) 0 0 none) me)
  fetches_in = subst
      (λ (z : Assignment). (x : ℕ) → x < variables_in z → me.0.knows.noted_lock < locks_in z → guard z x ≡ me.0.knows.noted_lock → owner_in me.0.knows.noted ≡ 0 → mode_at me.0.knows.own me.0.lane me.0.knows.noted_lock ≡ Free
      → Allows (IsMoment z) slots id me (locks_in z + x) (λ n. n) (fetched (step slots (locks_in z + x) 0 0 none) me)) key (fetches slots id me role)

  pub publishes_in : (x word : ℕ) → x < variables_in r → (first : Knowledge) → HoldsTo r me.0 first → mode_at first.own me.0.lane (guard r x) ≡ Exclusive → cast_signed w64 word ≡ value_at first.own x
      → Allows (IsMoment r) slots id me (locks_in r + x) (λ _. word) (λ _. published (step slots (locks_in r + x) word 0 none) me word)
  publishes_in = subst
      (λ (z : Assignment). (x word : ℕ) → x < variables_in z → (first : Knowledge) → HoldsTo z me.0 first → mode_at first.own me.0.lane (guard z x) ≡ Exclusive → cast_signed w64 word ≡ value_at first.own x
      → Allows (IsMoment z) slots id me (locks_in z + x) (λ _. word) (λ _. published (step slots (locks_in z + x) word 0 none) me word)) key (publishes slots id me role)

  pub releases_in : (lock word : ℕ) → lock < locks_in r → (first : Knowledge) → HoldsTo r me.0 first → ((x : ℕ) → x < variables_in r → guard r x ≡ lock → Has x first.stored) → (own : StateValue)
      → next (service_of r) first.own (own_event me.0.lane first (RelEx lock)) ≡ Some own → length first.list + 1 ≤ 1000000 → word ≡ word_of (greatest_stamp first.list + 1) 0
      → Allows (IsMoment r) slots id me lock (λ _. word) (λ _. released (step slots lock word 0 none) me word)
  releases_in = subst
      (λ (z : Assignment). (lock word : ℕ) → lock < locks_in z → (first : Knowledge) → HoldsTo z me.0 first → ((x : ℕ) → x < variables_in z → guard z x ≡ lock → Has x first.stored) → (own : StateValue)
      → next (service_of z) first.own (own_event me.0.lane first (RelEx lock)) ≡ Some own → length first.list + 1 ≤ 1000000 → word ≡ word_of (greatest_stamp first.list + 1) 0
      → Allows (IsMoment z) slots id me lock (λ _. word) (λ _. released (step slots lock word 0 none) me word)) key (releases slots id me role)

  pub takes_in : (acquires : ℕ → Kind) → (acquires me.0.knows.noted_lock ≡ AcqEx me.0.knows.noted_lock) ⊎ (acquires me.0.knows.noted_lock ≡ TryOk me.0.knows.noted_lock) → (lock had new : ℕ) → lock ≡ me.0.knows.noted_lock → had ≡ me.0.knows.noted
      → new ≡ word_of (taking_stamp me.0.knows) (me.0.lane + 1) → me.0.knows.noted_lock < locks_in r → owner_in me.0.knows.noted ≡ 0 → ((x : ℕ) → x < variables_in r → guard r x ≡ me.0.knows.noted_lock → Has x me.0.knows.loaded) → (own : StateValue)
      → next (service_of r) me.0.knows.own (own_event me.0.lane me.0.knows (acquires me.0.knows.noted_lock)) ≡ Some own → length me.0.knows.list + 1 ≤ 1000000
      → Allows (IsMoment r) slots id me lock (λ n. either (nat_eq n had) new n) (taken acquires (step slots lock had new none) me)
  takes_in acquires kinds lock had new is_lock is_had is_new = subst
      (λ (z : Assignment). me.0.knows.noted_lock < locks_in z → owner_in me.0.knows.noted ≡ 0 → ((x : ℕ) → x < variables_in z → guard z x ≡ me.0.knows.noted_lock → Has x me.0.knows.loaded) → (own : StateValue)
      → next (service_of z) me.0.knows.own (own_event me.0.lane me.0.knows (acquires me.0.knows.noted_lock)) ≡ Some own → length me.0.knows.list + 1 ≤ 1000000
      → Allows (IsMoment z) slots id me lock (λ n. either (nat_eq n had) new n) (taken acquires (step slots lock had new none) me)) key
      (λ there unowned loaded own leads more. takes slots id me role acquires kinds lock had new is_lock is_had is_new there unowned loaded own leads more)
