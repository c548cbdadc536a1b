-- A seat before and after the exchange of a lock's word.
use Rattle.std.proofs.Common.{◌≡◌, ◌≢◌, ◌⊎◌, inl, inr, ℕ, ◌+◌, ◌<◌, ◌≤◌, arith, true, List, length, ap, sym, ◌∙◌, subst}
use Rattle.std.specs.Prelude.{Some, max}
use Rattle.std.proofs.lemmas.Bool.{cases_eq}
use Rattle.atomic_table.specs.Seated.{TableId}
use Rattle.rex_frame.specs.declared.frame.Frame.{Frame}
use Rattle.rex_event.specs.declared.event.Kind.{Kind}
use Rattle.rex_event.specs.declared.event.Kind.TheVariants.{AcqEx, TryOk}
use Rattle.rex_state.specs.Machine.{frame_at, next}
use Rattle.rex_words.specs.declared.assignment.Assignment.{Assignment}
use Rattle.rex_words.specs.declared.stamped.Stamped.{Stamped}
use Rattle.rex_words.specs.declared.seat.WordSeat.{WordSeat}
use Rattle.rex_words.specs.declared.view.Knowledge.{Knowledge}
use Rattle.rex_words.specs.declared.view.View.{View}
use Rattle.rex_words.specs.Words.{stamp_in, owner_in, word_of}
use Rattle.rex_words.specs.Stamps.{greatest_stamp}
use Rattle.rex_words.specs.Recorded.{is_plain}
use Rattle.rex_words.specs.Alone.{service_of, own_event}
use Rattle.rex_words.specs.Moment.{locks_in, variables_in, IsAssignment}
use Rattle.rex_words.specs.Steps.{Does, taking_stamp, HasTaken}
use Rattle.rex_words.specs.Turns.{IsSettled, IsFetching, AreLoaded, IsAhead, is_on_lock, HasFailed, IsCounted}
use Rattle.rex_words.proofs.Standing.{CanDo}
use Rattle.rex_words.proofs.Seated.{LaneSeat, with_seat, room_for, next_same, settled_by, ahead_by, settled_seat}
use Rattle.rex_words.proofs.Stepped.{takes_in}
use Rattle.atomic_table.specs.Table.{step, Allows}
use mathlib.Core.Option.{none}
use Rattle.rex_words.specs.Moment.{IsMoment}
use prog.Atomic.{either}
use Rattle.std.specs.Prelude.{nat_eq}
use Rattle.rex_words.specs.Steps.{taken, unmarked}

module _ (r : Assignment) (a : IsAssignment r) (z : TableId) (m : WordSeat) (q : IsSettled r z m) (lock word stamp : ℕ) (f : IsFetching r m lock word) (loaded : AreLoaded r m lock (variables_in r)) (stamp_is : stamp ≡ max m.stamp (stamp_in word) + 1) (acquires : ℕ → Kind)
    (kinds : (acquires lock ≡ AcqEx lock) ⊎ (acquires lock ≡ TryOk lock)) (on : is_on_lock (acquires lock) ≡ true) (plain : is_plain (acquires lock) ≡ true) (frame : Frame) (busy : frame_at m.state m.lane ≡ Some frame) (can : CanDo r a m q.lane (acquires lock)) where
  abbrev v : View
  v = m.seat.me.0

  -- the stamp in words is small
  pub low_stamp : stamp ≤ 64000001
  low_stamp = let l = q.lane.low in let w = f.low in let n = q.lane.few in omega arith

  taking_is : taking_stamp v.knows ≡ stamp
  taking_is = (λ i. max (greatest_stamp (q.list i)) (stamp_in (f.word_is i)) + 1) ∙ (ap (λ (n : ℕ). max n (stamp_in word) + 1) (sym q.lane.stamp) ∙ sym stamp_is)

  pub may_take : (slots new : ℕ) → new ≡ word_of stamp (m.lane + 1) → Allows (IsMoment r) slots m.seat.id m.seat.me lock (λ n. either (nat_eq n word) new n) (taken acquires (step slots lock word new none) m.seat.me)
  may_take slots new is_new = takes_in r slots m.seat.id m.seat.me q.role q.key acquires (subst (λ (x : ℕ). (acquires x ≡ AcqEx x) ⊎ (acquires x ≡ TryOk x)) (sym f.lock_is) kinds) lock word new (sym f.lock_is) (sym f.word_is)
      (is_new ∙ (λ i. word_of (sym taking_is i) (sym q.lane_is i + 1))) (subst (λ (n : ℕ). n < locks_in r) (sym f.lock_is) f.there) (ap owner_in f.word_is ∙ f.unowned)
      (λ x lt g. loaded.each x lt (g ∙ f.lock_is)) can.state
      (subst (λ (x : ℕ). next (service_of r) v.knows.own (own_event v.lane v.knows (acquires x)) ≡ Some can.state) (sym f.lock_is) (next_same r m v.lane v.knows (acquires lock) can.state q.lane_is q.own can.leads))
      (subst (λ (xs : List Stamped). length xs + 1 ≤ 1000000) (sym q.list) (room_for r m q.lane a frame busy (acquires lock) plain can.state can.leads))

  module _ (s : LaneSeat) (new found : ℕ) (table : s.table_id ≡ m.seat.table_id) (h : HasTaken acquires v lock word new found s.me.0) (empty : s.me.1 ≡ m.seat.me.1) where
    pub take_ahead : found ≡ word → IsAhead r z (with_seat m s) (acquires lock) stamp
    take_ahead e =
        let t = h.won e in
        let w = f.low in let l = q.lane.low in
        let does : Does v v.knows (acquires lock) stamp t.known = subst (λ (x : ℕ × ℕ). Does v v.knows (acquires x.0) x.1 t.known) (λ i. (f.lock_is i, taking_is i)) t.does in
        ahead_by r z m (settled_seat r z m q) s v.knows t.known (acquires lock) stamp table (ap (λ (x : View). x.key) t.view) (ap (λ (x : View). x.role) t.view) (ap (λ (x : View). x.lane) t.view) (ap (λ (x : View). x.knows) t.view) q.list q.own empty on does (omega arith) (omega arith)

    pub take_fails : found ≢ word → HasFailed r z m (with_seat m s) word found
    take_fails ne =
        let view = h.lost ne in
        record {
          settled = settled_by r z m (settled_seat r z m q) s (unmarked v.knows) table (ap (λ (x : View). x.key) view) (ap (λ (x : View). x.role) view) (ap (λ (x : View). x.lane) view) (ap (λ (x : View). x.knows) view) q.list q.own empty;
          counted = let e : s.me.0.failures ≡ v.failures + 1 = ap (λ (x : View). x.failures) view in omega arith;
          wanted = ap (λ (x : View). x.wanted) view;
          seen_is = ap (λ (x : View). x.seen) view;
        }

    pub take_counts : s.id ≡ m.seat.id → IsCounted m (with_seat m s) lock word
    take_counts id = by (cases_eq found word)
      where
        by : (found ≡ word) ⊎ (found ≡ word → ⊥) → IsCounted m (with_seat m s) lock word
        by (inl e) =
            let t = h.won e in
            record { id = id; loads = ap (λ (x : View). x.loads) t.view; lock_is = ap (λ (x : View). x.knows.noted_lock) t.view ∙ (ap (λ (k : Knowledge). k.noted_lock) t.does.known ∙ f.lock_is); word_is = ap (λ (x : View). x.knows.noted) t.view ∙ (ap (λ (k : Knowledge). k.noted) t.does.known ∙ f.word_is) }
        by (inr ne) =
            let view = h.lost ne in
            record { id = id; loads = ap (λ (x : View). x.loads) view; lock_is = ap (λ (x : View). x.knows.noted_lock) view ∙ f.lock_is; word_is = ap (λ (x : View). x.knows.noted) view ∙ f.word_is }
