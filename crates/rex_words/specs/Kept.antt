-- What each kind of step keeps of what is true at a moment.
use Rattle.std.specs.Prelude.{◌≡◌, ◌⊎◌, ℕ, ◌+◌, ◌<◌, ◌≤◌, List, cond, length, nat_eq, None, Some, slice_set}
use Rattle.std.specs.Int.{cast_signed}
use mir.Syntax.{w64}
use Rattle.rex_syntax.specs.declared.locks.Mode.TheVariants.{Free, Exclusive}
use Rattle.rex_event.specs.declared.event.Kind.{Kind}
use Rattle.rex_event.specs.declared.event.Kind.TheVariants.{AcqEx, RelEx, TryOk}
use Rattle.rex_event.specs.Order.{Has}
use Rattle.rex_event.specs.Conflict.{named_lock}
use Rattle.rex_state.specs.Value.{StateValue}
use Rattle.rex_state.specs.Machine.{next}
use Rattle.rex_state.specs.Start.{start_of}
use Rattle.rex_state.specs.Sound.{mode_at}
use Rattle.rex_words.specs.declared.assignment.Assignment.{Assignment}
use Rattle.rex_words.specs.declared.view.Knowledge.{Knowledge}
use Rattle.rex_words.specs.Words.{owner_in, word_of}
use Rattle.rex_words.specs.Stamps.{greatest_stamp}
use Rattle.rex_words.specs.Recorded.{IsDealt}
use Rattle.rex_words.specs.Own.{value_at}
use Rattle.rex_words.specs.Alone.{service_of, own_event, with_event}
use Rattle.rex_words.specs.Moment.{locks_in, variables_in, lock_word, word_value, guard, first_known, IsAssignment, IsCommon}
use Rattle.rex_words.specs.Steps.{looking, unmarked, with_load, with_store, taking_stamp}

-- what is known, with something else of one lane
abbrev pub with_known : (ℕ → Knowledge) → ℕ → Knowledge → ℕ → Knowledge
with_known know lane k other = cond (nat_eq other lane) k (know other)

-- the words at first: 0 for each lock, and each variable's first value
pub record AreFirstWords (r : Assignment) (words : List ℕ) : Type 0 where
  pub locks : (lock : ℕ) → lock < locks_in r → lock_word words lock ≡ 0
  pub values : (x : ℕ) → x < variables_in r → word_value r words x ≡ value_at (start_of (service_of r)) x

-- at first the lanes did nothing
abbrev pub BeginningsHold : Type 0
BeginningsHold = (r : Assignment) (words : List ℕ) → IsAssignment r → AreFirstWords r words → IsCommon r words (λ lane. first_known r)

-- an event without a lock that a lane does in its own state, with a stamp one more than its last, enters what is known
abbrev pub QuietEventsEnter : Type 0
QuietEventsEnter =
    (r : Assignment) (words : List ℕ) (know : ℕ → Knowledge) (lane : ℕ) (kind : Kind) (own : StateValue) → IsAssignment r → IsCommon r words know → lane < (service_of r).lanes
    → IsDealt (service_of r) (own_event lane (know lane) kind) → named_lock kind ≡ None → next (service_of r) (know lane).own (own_event lane (know lane) kind) ≡ Some own
    → IsCommon r words (with_known know lane (with_event (know lane) (greatest_stamp (know lane).list + 1) (own_event lane (know lane) kind) own))

-- the word of a lock may be loaded and noted
abbrev pub LooksKeep : Type 0
LooksKeep =
    (r : Assignment) (words : List ℕ) (know : ℕ → Knowledge) (lane lock : ℕ) → IsCommon r words know → lane < (service_of r).lanes → lock < locks_in r
    → IsCommon r words (with_known know lane (looking (know lane) lock (lock_word words lock)))

-- marks may go, as at an exchange that fails
abbrev pub FailuresKeep : Type 0
FailuresKeep = (r : Assignment) (words : List ℕ) (know : ℕ → Knowledge) (lane : ℕ) → IsCommon r words know → lane < (service_of r).lanes → IsCommon r words (with_known know lane (unmarked (know lane)))

-- a variable whose lock was noted without an owner, and isn't the lane's, may be loaded
abbrev pub LoadsKeep : Type 0
LoadsKeep =
    (r : Assignment) (words : List ℕ) (know : ℕ → Knowledge) (lane x : ℕ) → IsCommon r words know → lane < (service_of r).lanes → x < variables_in r
    → (know lane).noted_lock < locks_in r → guard r x ≡ (know lane).noted_lock → owner_in (know lane).noted ≡ 0 → mode_at (know lane).own lane (know lane).noted_lock ≡ Free
    → IsCommon r words (with_known know lane (with_load (know lane) x (word_value r words x)))

-- the word of a variable
abbrev pub with_variable : Assignment → List ℕ → ℕ → ℕ → List ℕ
with_variable r words x word = slice_set words (locks_in r + x) word

-- a variable whose guard the lane holds may be stored
abbrev pub StoresKeep : Type 0
StoresKeep =
    (r : Assignment) (words : List ℕ) (know : ℕ → Knowledge) (lane x word : ℕ) → IsAssignment r → locks_in r + variables_in r ≤ length words → IsCommon r words know → lane < (service_of r).lanes → x < variables_in r
    → mode_at (know lane).own lane (guard r x) ≡ Exclusive → cast_signed w64 word ≡ value_at (know lane).own x → IsCommon r (with_variable r words x word) (with_known know lane (with_store (know lane) x))

-- ---- the steps of locks

-- the words with another word of a lock
abbrev pub with_lock : List ℕ → ℕ → ℕ → List ℕ
with_lock words lock word = slice_set words lock word

-- where the word of a lock is the noted one, without an owner, and all its variables are loaded, the lane may take the lock
abbrev pub TakesKeep : Type 0
TakesKeep =
    (r : Assignment) (words : List ℕ) (know : ℕ → Knowledge) (lane : ℕ) (kind : Kind) (own : StateValue) → IsAssignment r → locks_in r + variables_in r ≤ length words → IsCommon r words know → lane < (service_of r).lanes
    → (know lane).noted_lock < locks_in r → (kind ≡ AcqEx (know lane).noted_lock) ⊎ (kind ≡ TryOk (know lane).noted_lock) → owner_in (know lane).noted ≡ 0 → lock_word words (know lane).noted_lock ≡ (know lane).noted
    → ((x : ℕ) → x < variables_in r → guard r x ≡ (know lane).noted_lock → Has x (know lane).loaded) → next (service_of r) (know lane).own (own_event lane (know lane) kind) ≡ Some own
    → IsCommon r (with_lock words (know lane).noted_lock (word_of (taking_stamp (know lane)) (lane + 1))) (with_known know lane (with_event (know lane) (taking_stamp (know lane)) (own_event lane (know lane) kind) own))

-- a lane whose variables of a lock are stored may give the lock up
abbrev pub ReleasesKeep : Type 0
ReleasesKeep =
    (r : Assignment) (words : List ℕ) (know : ℕ → Knowledge) (lane lock : ℕ) (own : StateValue) → IsAssignment r → locks_in r + variables_in r ≤ length words → IsCommon r words know → lane < (service_of r).lanes
    → lock < locks_in r → ((x : ℕ) → x < variables_in r → guard r x ≡ lock → Has x (know lane).stored) → next (service_of r) (know lane).own (own_event lane (know lane) (RelEx lock)) ≡ Some own
    → IsCommon r (with_lock words lock (word_of (greatest_stamp (know lane).list + 1) 0)) (with_known know lane (with_event (know lane) (greatest_stamp (know lane).list + 1) (own_event lane (know lane) (RelEx lock)) own))
