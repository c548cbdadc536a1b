-- What a step at a lock found.
use Rattle.std.proofs.Common.{◌≡◌, ◌≢◌, ℕ, ◌+◌, ◌<◌, ◌≤◌, arith, Bool, true, false, length, refl, ap, sym, ◌∙◌}
use Rattle.std.specs.Prelude.{None, Some, ◌||◌}
use Rattle.atomic_table.specs.Seated.{TableId}
use Rattle.rex_syntax.specs.declared.locks.Mode.TheVariants.{Free}
use Rattle.rex_syntax.specs.declared.line.Line.{Line}
use Rattle.rex_state.specs.Lines.{is_acquire, is_try}
use Rattle.rex_state.specs.Sound.{mode_at}
use Rattle.rex_words.specs.declared.assignment.Assignment.{Assignment}
use Rattle.rex_words.specs.declared.seat.WordSeat.{WordSeat}
use Rattle.rex_words.specs.Words.{stamp_in, owner_in}
use Rattle.rex_words.specs.Moment.{locks_in}
use Rattle.rex_words.specs.Turns.{StandsAt, IsPreparing, IsFetching, GoesOn, HasFound, HasFailed, IsCounted, IsAgain, takes_at, failures_of}
use Rattle.rex_words.proofs.Seated.{with_seat}

pub stands_goes : (r : Assignment) (m : WordSeat) (is_at : Line → ℕ → Bool) (lock : ℕ) → StandsAt r m is_at lock → GoesOn r m
stands_goes r m is_at lock s = record { not_idle = λ i. busy (sym s.busy ∙ i.idle); not_full = λ i. busy (sym s.busy ∙ i.idle) }
  where
    busy : Some s.frame ≡ None → ⊥
    busy e = cc

pub at_try : (r : Assignment) (m : WordSeat) (lock : ℕ) → StandsAt r m is_try lock → StandsAt r m takes_at lock
at_try r m lock s = record { frame = s.frame; busy = s.busy; at = by (is_acquire _ lock) (is_try _ lock) s.at }
  where
    by : (b c : Bool) → c ≡ true → (b || c) ≡ true
    by true c h = refl
    by false c h = h

module _ (r : Assignment) (m n : WordSeat) (lock word : ℕ) (rest : n ≡ with_seat m n.seat) where
  pub fetching_at : lock < locks_in r → HasFound m n lock word → owner_in word ≡ 0 → stamp_in word ≤ length m.events.items + 63000000 → mode_at m.state m.lane lock ≡ Free → IsFetching r n lock word
  fetching_at there found unowned low free = record {
    there = there;
    lock_is = found.lock_is;
    word_is = found.word_is;
    unowned = unowned;
    low = let e : length n.events.items ≡ length m.events.items = ap (λ (x : WordSeat). length x.events.items) rest in omega arith;
    free = ap (λ (x : WordSeat). mode_at x.state x.lane lock) rest ∙ free;
  }

  pub again_at : (z : TableId) (o p : WordSeat) (seen : ℕ) → StandsAt r m is_try lock → HasFound m n lock word → failures_of n ≡ failures_of m → owner_in word ≡ 0 → IsPreparing n o → p ≡ with_seat o p.seat → IsCounted o p lock word → HasFailed r z o p word seen → seen ≢ word → IsAgain r m p word seen
  again_at z o p seen at found same unowned preparing rest' counts failed other = record {
    goes = stands_goes r m is_try lock at;
    lock = lock;
    at = at_try r m lock at;
    found = record { counted = let a = found.counted in let b = preparing.loads in let c = counts.loads in omega arith; lock_is = counts.lock_is; word_is = counts.word_is };
    unowned = unowned;
    failed = let a = failed.counted in let b = preparing.failures in omega arith;
    wanted = failed.wanted;
    seen_is = failed.seen_is;
    other = other;
    events = ap (λ (x : WordSeat). x.events.items) rest' ∙ (preparing.events ∙ ap (λ (x : WordSeat). x.events.items) rest);
  }
