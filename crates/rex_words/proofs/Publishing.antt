-- A seat before and after the stores by which a lane gives a lock up.
use Rattle.std.proofs.Common.{◌≡◌, ◌≢◌, inl, inr, ⊎_elim, ℕ, ◌+◌, ◌<◌, ◌≤◌, arith, List, [], length, refl, ap, sym, ◌∙◌, subst}
use Rattle.std.specs.Prelude.{None}
use Rattle.std.proofs.lemmas.Bool.{cases_lt}
use Rattle.std.specs.Int.{cast_signed}
use mir.Syntax.{w64}
use Rattle.atomic_table.specs.Seated.{TableId}
use Rattle.rex_syntax.specs.declared.locks.Mode.TheVariants.{Exclusive}
use Rattle.rex_event.specs.declared.event.Kind.TheVariants.{RelEx}
use Rattle.rex_event.specs.Order.{Has}
use Rattle.rex_state.specs.Value.{StateValue}
use Rattle.rex_state.specs.Sound.{mode_at}
use Rattle.rex_words.specs.declared.assignment.Assignment.{Assignment}
use Rattle.rex_words.specs.declared.stamped.Stamped.{Stamped}
use Rattle.rex_words.specs.declared.seat.WordSeat.{WordSeat}
use Rattle.rex_words.specs.declared.view.Knowledge.{Knowledge}
use Rattle.rex_words.specs.declared.view.View.{View}
use Rattle.rex_words.specs.Words.{word_of}
use Rattle.rex_words.specs.Stamps.{greatest_stamp}
use Rattle.rex_words.specs.Own.{value_at}
use Rattle.rex_words.specs.Alone.{alone}
use Rattle.rex_words.specs.Moment.{locks_in, variables_in, guard, IsAssignment}
use Rattle.rex_words.specs.Steps.{with_store, HasPublished, HasReleased}
use Rattle.rex_words.specs.Seats.{IsSeatOf}
use Rattle.rex_words.specs.Turns.{IsPublishing, IsAhead}
use Rattle.rex_words.proofs.Standing.{CanDo, can_release, held_at_release}
use Rattle.rex_words.proofs.Seated.{LaneSeat, with_seat, room_for, next_same, quiet_release, holds_to, entered_is, ahead_by, lane_with_seat}
use Rattle.rex_words.proofs.Stepped.{publishes_in, releases_in}
use Rattle.atomic_table.specs.Table.{step, Allows}
use mathlib.Core.Option.{none}
use Rattle.rex_words.specs.Moment.{IsMoment}
use Rattle.rex_words.specs.Steps.{published, released}
use Rattle.rex_words.proofs.Standing.{release_there}
use Rattle.std.proofs.Common.{◌-◌}

module _ (r : Assignment) (a : IsAssignment r) (z : TableId) (m : WordSeat) (lock count : ℕ) (p : IsPublishing r z m lock count) where
  abbrev v : View
  v = m.seat.me.0

  abbrev q : IsSeatOf r z m
  q = p.seat

  quiet : alone r m.lane q.now ≡ None
  quiet = quiet_release r z m q lock p.at

  -- ---- a variable

  module _ (x : ℕ) (there : x < variables_in r) (guarded : guard r x ≡ lock) where
    held : mode_at q.now.own v.lane (guard r x) ≡ Exclusive
    held = subst (λ (y : StateValue × ℕ × ℕ). mode_at y.0 y.1 y.2 ≡ Exclusive) (λ i. (sym q.own i, sym q.lane_is i, sym guarded i)) (held_at_release r a m q.lane lock p.at)

    pub may_publish : (slots word : ℕ) → cast_signed w64 word ≡ value_at m.state x → Allows (IsMoment r) slots m.seat.id m.seat.me (locks_in r + x) (λ _. word) (λ _. published (step slots (locks_in r + x) word 0 none) m.seat.me word)
    may_publish slots word value = publishes_in r slots m.seat.id m.seat.me q.role q.key x word there q.now (holds_to r z m q quiet) held (value ∙ ap (λ (s : StateValue). value_at s x) (sym q.own))

    pub publish_more : (s : LaneSeat) (place : ℕ) → x ≡ count → s.table_id ≡ m.seat.table_id → place ≡ locks_in r + x → HasPublished v (place - locks_in v.key) s.me.0 → s.me.1 ≡ m.seat.me.1 → IsPublishing r z (with_seat m s) lock (x + 1)
    publish_more s place here table is h empty =
        let same : place - locks_in v.key ≡ x = ap (λ (k : Assignment). place - locks_in k) q.key ∙ omega arith in
        let first : h.first ≡ q.now = entered_is r z m q quiet h.first h.enters in
        let knows : s.me.0.knows ≡ with_store q.now x = ap (λ (y : View). y.knows) h.view ∙ (λ i. with_store (first i) (same i)) in
        record {
          seat = record {
            table = table ∙ q.table;
            key = ap (λ (y : View). y.key) h.view ∙ q.key;
            role = ap (λ (y : View). y.role) h.view ∙ q.role;
            lane_is = ap (λ (y : View). y.lane) h.view ∙ q.lane_is;
            empty = empty ∙ q.empty;
            lane = lane_with_seat r m q.lane s;
            held = [];
            now = s.me.0.knows;
            does = refl;
            quiet = λ e none. absurd none;
            list = ap (λ (k : Knowledge). k.list) knows ∙ q.list;
            own = ap (λ (k : Knowledge). k.own) knows ∙ q.own;
          };
          at = record { frame = p.at.frame; busy = p.at.busy; at = p.at.at };
          stored = λ y lt g. subst (λ (ys : List ℕ). Has y ys) (sym (ap (λ (k : Knowledge). k.stored) knows))
              (⊎_elim (λ (o : y < count). inr (p.stored y o g)) (λ (o : count ≤ y). let e : x ≡ y = omega arith in inl e) (cases_lt y count));
        }

  -- a variable of another lock
  pub publish_none : (x : ℕ) → x ≡ count → guard r x ≢ lock → IsPublishing r z m lock (x + 1)
  publish_none x here other = record {
    seat = p.seat;
    at = p.at;
    stored = λ y lt g. ⊎_elim (λ (o : y < count). p.stored y o g) (λ (o : count ≤ y). let e : y ≡ x = omega arith in absurd (other (ap (guard r) (sym e) ∙ g))) (cases_lt y count);
  }

pub publish_whole : (r : Assignment) (z : TableId) (m : WordSeat) (lock count : ℕ) → IsPublishing r z m lock count → variables_in r ≤ count → IsPublishing r z m lock (variables_in r)
publish_whole r z m lock count p h = record { seat = p.seat; at = p.at; stored = λ y lt g. p.stored y (omega arith) g }

module _ (r : Assignment) (a : IsAssignment r) (z : TableId) (m : WordSeat) (lock : ℕ) (p : IsPublishing r z m lock (variables_in r)) (stamp : ℕ) (stamp_is : stamp ≡ m.stamp + 1) where
  abbrev w : View
  w = m.seat.me.0

  abbrev o : IsSeatOf r z m
  o = p.seat

  quiet_here : alone r m.lane o.now ≡ None
  quiet_here = quiet_release r z m o lock p.at

  can : CanDo r a m o.lane (RelEx lock)
  can = can_release r a m o.lane lock p.at

  pub release_low : stamp ≤ 64000001
  release_low = let l = o.lane.low in let n = o.lane.few in omega arith

  stamp_at : (xs : List Stamped) → xs ≡ m.events.items → greatest_stamp xs + 1 ≡ stamp
  stamp_at xs e = ap (λ (ys : List Stamped). greatest_stamp ys + 1) e ∙ (ap (λ (n : ℕ). n + 1) (sym o.lane.stamp) ∙ sym stamp_is)

  pub may_release : (slots word : ℕ) → word ≡ word_of stamp 0 → Allows (IsMoment r) slots m.seat.id m.seat.me lock (λ _. word) (λ _. released (step slots lock word 0 none) m.seat.me word)
  may_release slots word is = releases_in r slots m.seat.id m.seat.me o.role o.key lock word (release_there r a m o.lane lock p.at) o.now (holds_to r z m o quiet_here) (λ x lt g. p.stored x lt g) can.state
      (next_same r m w.lane o.now (RelEx lock) can.state o.lane_is o.own can.leads)
      (subst (λ (xs : List Stamped). length xs + 1 ≤ 1000000) (sym o.list) (room_for r m o.lane a p.at.frame p.at.busy (RelEx lock) refl can.state can.leads))
      (is ∙ ap (λ (n : ℕ). word_of n 0) (sym (stamp_at o.now.list o.list)))

  pub release_ahead : (s : LaneSeat) (word : ℕ) → s.table_id ≡ m.seat.table_id → HasReleased w lock word s.me.0 → s.me.1 ≡ m.seat.me.1 → IsAhead r z (with_seat m s) (RelEx lock) stamp
  release_ahead s word table h empty =
      let first : h.first ≡ o.now = entered_is r z m o quiet_here h.first h.enters in
      let list : h.first.list ≡ m.events.items = ap (λ (k : Knowledge). k.list) first ∙ o.list in
      let own : h.first.own ≡ m.state = ap (λ (k : Knowledge). k.own) first ∙ o.own in
      let low = o.lane.low in
      subst (λ (n : ℕ). IsAhead r z (with_seat m s) (RelEx lock) n) (stamp_at h.first.list list)
      (ahead_by r z m o s h.first h.known (RelEx lock) (greatest_stamp h.first.list + 1) table (ap (λ (y : View). y.key) h.view) (ap (λ (y : View). y.role) h.view) (ap (λ (y : View). y.lane) h.view) (ap (λ (y : View). y.knows) h.view) list own empty refl h.does
      (let e = stamp_at h.first.list list in omega arith) (let e = stamp_at h.first.list list in omega arith))
