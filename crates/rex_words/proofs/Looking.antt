-- A seat before and after the load of a lock's word.
use Rattle.std.proofs.Common.{◌≡◌, ◌≢◌, ◌⊎◌, inl, inr, ℕ, ◌+◌, ◌≤◌, arith, List, length, refl, ap, sym, ◌∙◌, subst}
use Rattle.std.proofs.lemmas.Bool.{cases_eq}
use Rattle.atomic_table.specs.Seated.{TableId}
use Rattle.rex_event.specs.declared.event.Kind.TheVariants.{TryBusy}
use Rattle.rex_state.specs.Lines.{is_acquire, is_try}
use Rattle.rex_words.specs.declared.assignment.Assignment.{Assignment}
use Rattle.rex_words.specs.declared.stamped.Stamped.{Stamped}
use Rattle.rex_words.specs.declared.seat.WordSeat.{WordSeat}
use Rattle.rex_words.specs.declared.view.Knowledge.{Knowledge}
use Rattle.rex_words.specs.declared.view.View.{View}
use Rattle.rex_words.specs.Words.{stamp_in, owner_in}
use Rattle.rex_words.specs.Stamps.{greatest_stamp}
use Rattle.rex_words.specs.Moment.{IsAssignment}
use Rattle.rex_words.specs.Steps.{looking, HasLooked, HasTried}
use Rattle.rex_words.specs.Seats.{IsSeatOf}
use Rattle.rex_words.specs.Turns.{IsSettled, StandsAt, IsAhead, loads_of, failures_of, noted_of, noted_lock_of}
use Rattle.rex_words.proofs.Standing.{CanDo, can_miss}
use Rattle.rex_words.proofs.Seated.{LaneSeat, with_seat, room_for, next_same, quiet_acquire, quiet_try, holds_to, entered_is, settled_by, ahead_by}
use Rattle.rex_words.proofs.Stepped.{looks_in, tries_in}
use Rattle.atomic_table.specs.Table.{step, Allows}
use mathlib.Core.Option.{none}
use Rattle.rex_words.specs.Moment.{IsMoment}
use Rattle.rex_words.specs.Steps.{looked, tried}
use Rattle.rex_words.proofs.Standing.{acquire_there, try_there}

module _ (r : Assignment) (a : IsAssignment r) (z : TableId) (m : WordSeat) (q : IsSeatOf r z m) (lock : ℕ) where
  -- ---- at an acquire

  module _ (at : StandsAt r m is_acquire lock) where
    pub may_look : (slots : ℕ) → Allows (IsMoment r) slots m.seat.id m.seat.me lock (λ n. n) (looked (step slots lock 0 0 none) m.seat.me)
    may_look slots = looks_in r slots m.seat.id m.seat.me q.role q.key lock (acquire_there r a m q.lane lock at) q.now (holds_to r z m q (quiet_acquire r z m q lock at))

    module _ (s : LaneSeat) (found : ℕ) (table : s.table_id ≡ m.seat.table_id) (h : HasLooked m.seat.me.0 lock found s.me.0) (empty : s.me.1 ≡ m.seat.me.1) where
      first_is : h.first ≡ q.now
      first_is = entered_is r z m q (quiet_acquire r z m q lock at) h.first h.enters

      pub look_settles : IsSettled r z (with_seat m s)
      look_settles =
          settled_by r z m q s (looking h.first lock found) table (ap (λ (v : View). v.key) h.view) (ap (λ (v : View). v.role) h.view) (ap (λ (v : View). v.lane) h.view) (ap (λ (v : View). v.knows) h.view)
          (ap (λ (k : Knowledge). k.list) first_is ∙ q.list) (ap (λ (k : Knowledge). k.own) first_is ∙ q.own) empty

      pub look_low : stamp_in found ≤ length m.events.items + 63000000
      look_low = subst (λ (xs : List Stamped). stamp_in found ≤ length xs + 63000000) (ap (λ (k : Knowledge). k.list) first_is ∙ q.list) h.low

  -- ---- at a try

  module _ (at : StandsAt r m is_try lock) where
    misses : CanDo r a m q.lane (TryBusy lock)
    misses = can_miss r a m q.lane lock at

    room : length q.now.list + 1 ≤ 1000000
    room = subst (λ (xs : List Stamped). length xs + 1 ≤ 1000000) (sym q.list) (room_for r m q.lane a at.frame at.busy (TryBusy lock) refl misses.state misses.leads)

    pub may_try : (slots : ℕ) → Allows (IsMoment r) slots m.seat.id m.seat.me lock (λ n. n) (tried (step slots lock 0 0 none) m.seat.me)
    may_try slots = tries_in r slots m.seat.id m.seat.me q.role q.key lock (try_there r a m q.lane lock at) q.now (holds_to r z m q (quiet_try r z m q lock at)) misses.state
        (next_same r m m.seat.me.0.lane q.now (TryBusy lock) misses.state q.lane_is q.own misses.leads) room

    module _ (s : LaneSeat) (found : ℕ) (table : s.table_id ≡ m.seat.table_id) (h : HasTried m.seat.me.0 lock found s.me.0) (empty : s.me.1 ≡ m.seat.me.1) where
      first_tried : h.first ≡ q.now
      first_tried = entered_is r z m q (quiet_try r z m q lock at) h.first h.enters

      list_is : h.first.list ≡ m.events.items
      list_is = ap (λ (k : Knowledge). k.list) first_tried ∙ q.list

      own_is : h.first.own ≡ m.state
      own_is = ap (λ (k : Knowledge). k.own) first_tried ∙ q.own

      pub try_low : stamp_in found ≤ length m.events.items + 63000000
      try_low = subst (λ (xs : List Stamped). stamp_in found ≤ length xs + 63000000) list_is h.low

      pub try_settles : owner_in found ≡ 0 → IsSettled r z (with_seat m s)
      try_settles free =
          let view = h.free free in
          settled_by r z m q s (looking h.first lock found) table (ap (λ (v : View). v.key) view) (ap (λ (v : View). v.role) view) (ap (λ (v : View). v.lane) view) (ap (λ (v : View). v.knows) view) list_is own_is empty

      stamp_is : greatest_stamp (looking h.first lock found).list + 1 ≡ m.stamp + 1
      stamp_is = ap (λ (xs : List Stamped). greatest_stamp xs + 1) list_is ∙ ap (λ (n : ℕ). n + 1) (sym q.lane.stamp)

      pub try_ahead : owner_in found ≢ 0 → IsAhead r z (with_seat m s) (TryBusy lock) (m.stamp + 1)
      try_ahead owned =
          let b = h.busy owned in
          let low = q.lane.low in
          subst (λ (n : ℕ). IsAhead r z (with_seat m s) (TryBusy lock) n) stamp_is
          (ahead_by r z m q s (looking h.first lock found) b.known (TryBusy lock) (greatest_stamp (looking h.first lock found).list + 1) table (ap (λ (v : View). v.key) b.view) (ap (λ (v : View). v.role) b.view) (ap (λ (v : View). v.lane) b.view) (ap (λ (v : View). v.knows) b.view)
          list_is own_is empty refl b.does (let e = stamp_is in omega arith) (let e = stamp_is in omega arith))

      pub try_found : (loads_of (with_seat m s) ≡ loads_of m + 1) × (noted_lock_of (with_seat m s) ≡ lock) × (noted_of (with_seat m s) ≡ found) × (failures_of (with_seat m s) ≡ failures_of m)
      try_found = by (cases_eq (owner_in found) 0)
        where
          by : (owner_in found ≡ 0) ⊎ (owner_in found ≡ 0 → ⊥) → (loads_of (with_seat m s) ≡ loads_of m + 1) × (noted_lock_of (with_seat m s) ≡ lock) × (noted_of (with_seat m s) ≡ found) × (failures_of (with_seat m s) ≡ failures_of m)
          by (inl free) = let v = h.free free in (ap (λ (v : View). v.loads) v, ap (λ (v : View). v.knows.noted_lock) v, ap (λ (v : View). v.knows.noted) v, ap (λ (v : View). v.failures) v)
          by (inr owned) =
              let b = h.busy owned in
              (ap (λ (v : View). v.loads) b.view, ap (λ (v : View). v.knows.noted_lock) b.view ∙ ap (λ (k : Knowledge). k.noted_lock) b.does.known, ap (λ (v : View). v.knows.noted) b.view ∙ ap (λ (k : Knowledge). k.noted) b.does.known, ap (λ (v : View). v.failures) b.view)
