-- A worker's rounds.
use Rattle.std.proofs.Common.{◌≡◌, ℕ, zero, suc, ◌+◌, ◌-◌, ◌*◌, ◌<◌, ◌≤◌, Bool, List, [], ◌∷◌, length, sum_by, sym, refl, ap, ◌∙◌, subst, ⊎_elim, inl, inr, arith}
use mathlib.Core.Option.{some}
use Rattle.std.proofs.lemmas.List.{length-map}
use Rattle.std.proofs.lemmas.List.Sums.{sum_by-cons}
use lib.ListN.{get_elem?}
use Rattle.atomic_table.specs.Seated.{TableId}
use Rattle.rex_board.specs.declared.recording.Recording.{Recording}
use Rattle.rex_board.specs.declared.seat.LaneSeat.{LaneSeat}
use Rattle.rex_board.specs.Turns.{IsLater, HasNoneLeft}
use Rattle.rex_board.proofs.Reading.{there, one_value}
use Rattle.rex_board.proofs.Later.{later_refl, later_trans}
use Rattle.rex_crew.specs.Rounds.{lane_of, done_of, AreSeatsOf, IsStuck, AreFinishedOrStuck, IsRound}
use Rattle.rex_crew.proofs.RoundKeeps.{stuck_since}
use Rattle.rex_crew.specs.Work.{room_of, IsHandedBack, IsWorking}

pub has : {A : Type 0} (l : List A) (i : ℕ) → i < length l → (a : A) × (get_elem? l i ≡ some a)
has [] i h = absurd (omega arith)
has (x ∷ xs) zero h = (x, refl)
has (x ∷ xs) (suc i) h = has xs i (omega arith)

pub room_is : (z : TableId) (t : Recording) (ms : List LaneSeat) → AreSeatsOf z t ms → sum_by done_of ms ≤ room_of ms
room_is z t [] all = let e : sum_by done_of [] ≡ 0 = refl in omega (arith, e)
room_is z t (m ∷ ms) all =
    let h = room_is z t ms (λ k o e. all (suc k) o e) in
    let s : m.done < 4294967296 = (all zero m refl).small in let e = sum_by-cons done_of m ms in omega (arith, h, s, e)

module _ (z : TableId) (t : Recording) (ms : List LaneSeat) where
  pub starts_working : AreSeatsOf z t ms → IsWorking z t ms ms 0
  starts_working all = record {
    seats = all;
    lanes = refl;
    rises = λ k m m' e e'. subst (IsLater m) (one_value ms k m m' e e') (later_refl m);
    counted = omega arith;
    stuck = inl refl;
    room = room_is z t ms all;
  }

  module _ (ns os : List LaneSeat) (before : ℕ) (done : Bool) (blocked : ℕ) (w : IsWorking z t ms ns before) (r : IsRound z t ns os done blocked) where
    as_long : length os ≡ length ns
    as_long = sym (length-map os lane_of) ∙ (ap length r.lanes ∙ length-map ns lane_of)

    middle : (k : ℕ) (o : LaneSeat) → get_elem? os k ≡ some o → (n : LaneSeat) × (get_elem? ns k ≡ some n)
    middle k o e = has ns k (let lt = there os k o e in omega (arith, lt, as_long))

    rising : (k : ℕ) (m o : LaneSeat) → get_elem? ms k ≡ some m → get_elem? os k ≡ some o → IsLater m o
    rising k m o e e' = let q = middle k o e' in later_trans m q.0 o (w.rises k m q.0 e q.1) (r.rises k q.0 o q.1 e')

    all_stuck : AreFinishedOrStuck t ms os
    all_stuck k m o e e' = let q = middle k o e' in ⊎_elim (λ (h : HasNoneLeft t o). inl h) (λ (h : IsStuck t q.0 o). inr (stuck_since t m q.0 o (w.rises k m q.0 e q.1) h)) (r.stuck k q.0 o q.1 e')

    pub works_on : IsWorking z t ms os 0
    works_on = record {
      seats = r.seats;
      lanes = r.lanes ∙ w.lanes;
      rises = rising;
      counted = let x = w.counted in let y = r.counted in omega (arith, x, y);
      stuck = inl refl;
      room = room_is z t os r.seats;
    }

    pub waits_on : IsWorking z t ms os (before + blocked)
    waits_on = record {
      seats = r.seats;
      lanes = r.lanes ∙ w.lanes;
      rises = rising;
      counted = let x = w.counted in let y = r.counted in omega (arith, x, y);
      stuck = inr all_stuck;
      room = room_is z t os r.seats;
    }

    pub ends : blocked ≡ 0 → IsHandedBack z t ms os
    ends bz = record { seats = r.seats; lanes = r.lanes ∙ w.lanes; turned = inl (r.finished bz) }

  pub gives_up : (ns : List LaneSeat) (blocked : ℕ) → IsWorking z t ms ns blocked → 1024 ≤ blocked → IsHandedBack z t ms ns
  gives_up ns blocked w le = record {
    seats = w.seats;
    lanes = w.lanes;
    turned = inr (⊎_elim (λ (h : blocked ≡ 0). absurd (omega arith)) (λ (h : AreFinishedOrStuck t ms ns). h) w.stuck, let x = w.counted in omega (arith, x));
  }

-- what is left to do falls where an event was done
module _ (ns os : List LaneSeat) (before : ℕ) where
  pub does_more : length os ≡ length ns → sum_by done_of ns < sum_by done_of os → sum_by done_of os ≤ room_of os → before < 18446744073709551616
      → (room_of os - sum_by done_of os) * 18446744073709551616 + (18446744073709551616 - 0) < (room_of ns - sum_by done_of ns) * 18446744073709551616 + (18446744073709551616 - before)
  does_more long performed left small =
      let a : (room_of os - sum_by done_of os) + 1 ≤ room_of ns - sum_by done_of ns = omega (arith, long, performed, left) in
      omega (arith, a, small)
