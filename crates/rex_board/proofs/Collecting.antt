-- The host takes in the lanes' seats.
use Rattle.std.proofs.Common.{◌≡◌, ◌≢◌, ◌⊎◌, inl, inr, ⊎_elim, ℕ, zero, suc, ◌+◌, ◌<◌, ◌≤◌, arith, Bool, true, List, [], ◌∷◌, ◌++◌, length, get_or, set, take, refl, sym, ap, ◌∙◌, subst, length-set}
use Rattle.std.proofs.lemmas.Bool.{cases_eq, cases_lt}
use Rattle.std.proofs.lemmas.List.{get_or-set_same, get_or-set_other}
use mathlib.Core.Option.{some, some-ne-none}
use lib.ListN.{get_elem?}
use Rattle.atomic_table.specs.Seated.{TableId}
use Rattle.rex_event.specs.declared.event.Event.{Event}
use Rattle.rex_event.specs.Order.{Has}
use Rattle.rex_event.specs.Cuts.{count_at, counted, counted_all, AreNumbered}
use Rattle.rex_state.specs.Value.{StateValue}
use Rattle.rex_state.specs.Machine.{lane_of, no_lane}
use Rattle.rex_state.specs.Counts.{counts_of}
use Rattle.rex_clocks.proofs.Leads.{has_left, has_right, has_parts}
use Rattle.rex_clocks.proofs.Numbered.{numbered_above}
use Rattle.rex_board.specs.declared.recording.Recording.{Recording}
use Rattle.rex_board.specs.declared.seat.LaneSeat.{LaneSeat}
use Rattle.rex_board.specs.declared.view.View.{View}
use Rattle.rex_board.specs.declared.view.Gathered.{Gathered}
use Rattle.rex_board.specs.Seated.{BoardSeat}
use Rattle.rex_board.specs.Recorded.{IsRight, start_of, events_of}
use Rattle.rex_board.specs.Moment.{guard, HoldsAlone}
use Rattle.rex_board.specs.Turns.{IsPreparing, IsPlaced}
use Rattle.rex_board.specs.Finishing.{IsFinished, IsPublished, IsTaken, IsCollected, IsCollecting}
use Rattle.rex_board.proofs.Reading.{has_at}
use Rattle.rex_board.proofs.Facts.{numbered}
use Rattle.rex_board.proofs.Placing.{no_event, done_last}

-- ---- what a lane holds was stored

pub more_published : (r : Recording) (m n : LaneSeat) (i : ℕ) (wanted : Bool) → IsPublished r m i → IsPreparing m n → (HoldsAlone m.frame (guard r i) → wanted ≡ true) → (wanted ≡ true → Has i n.seat.me.0.knows.stored) → IsPublished r n (i + 1)
more_published r m n i wanted a p is h = record {
  each = λ x lt held.
      let before : HoldsAlone m.frame (guard r x) = subst (λ f. HoldsAlone f (guard r x)) p.frame held in
      ⊎_elim (λ (q : x < i). p.stored x (a.each x q before))
      (λ (q : i ≤ x). let e : i ≡ x = omega arith in subst (λ (y : ℕ). Has y n.seat.me.0.knows.stored) e (h (is (subst (λ (y : ℕ). HoldsAlone m.frame (guard r y)) (sym e) before))))
      (cases_lt x i);
}

-- ---- a lane that has no event left did all

later_index : (counts : List ℕ) (es : List Event) (from lane k : ℕ) (d : Event) → AreNumbered counts es → from ≤ k → k < length es → (get_or es k d).lane ≡ lane → count_at (counted_all counts (take from es)) lane ≤ (get_or es k d).index
later_index counts es zero lane k d n le lt is = subst (λ (l : ℕ). count_at counts l ≤ (get_or es k d).index) is (numbered_above counts es (get_or es k d) n (has_at es k d lt))
later_index counts [] (suc from) lane k d n le lt is = absurd (omega arith)
later_index counts (x ∷ es) (suc from) lane zero d n le lt is = absurd (omega arith)
later_index counts (x ∷ es) (suc from) lane (suc k) d n le lt is = later_index (counted counts x) es from lane k d n.2 (omega arith) (omega arith) is

pub done_all : (r : Recording) (z : TableId) (m : LaneSeat) → IsRight r → IsFinished r z m → m.done ≡ count_at (counted_all (counts_of (start_of r)) (events_of r)) m.lane
done_all r z m ok f =
    let p : IsPlaced r m.lane m.done m.place = f.seat.placed in
    done_last r ok m.lane m.done m.place p no_event (record {
      each = λ k d a b is.
          let less : (get_or (events_of r) k d).index < m.done = f.none.each (get_or (events_of r) k d) (has_at (events_of r) k d b) is in
          let least = later_index (counts_of (start_of r)) (events_of r) m.place m.lane k d (numbered r ok) a b is in
          let same = p.done_is in
          omega arith;
    })

-- ---- lists

at_left : {A : Type 0} (xs ys : List A) (i : ℕ) (a : A) → get_elem? xs i ≡ some a → get_elem? (xs ++ ys) i ≡ some a
at_left [] ys i a h = absurd (some-ne-none a (sym h))
at_left (x ∷ xs) ys zero a h = h
at_left (x ∷ xs) ys (suc i) a h = at_left xs ys i a h

at_seam : {A : Type 0} (xs : List A) (a : A) → get_elem? (xs ++ a ∷ []) (length xs) ≡ some a
at_seam [] a = refl
at_seam (x ∷ xs) a = at_seam xs a

-- ---- one more lane was taken in

module _ (r : Recording) (z : TableId) (ok : IsRight r) (s s' : BoardSeat) (state state' : StateValue) (rest : List LaneSeat) (m : LaneSeat) (c : IsCollecting r z s state (rest ++ m ∷ [])) (t : IsTaken r s s' state state' m) where
  mine : IsFinished r z m
  mine = c.each m (has_right m rest (m ∷ []) (inl refl))

  there : m.lane < length state.lanes
  there = omega (arith, c.lanes, mine.seat.there)

  gathered_is : s'.me.0.gathered ≡ s.me.0.gathered ++ (record { lane = m.lane; knows = t.known }) ∷ []
  gathered_is = ap (λ (v : View). v.gathered) t.view

  old : (lane : ℕ) → lane ≢ m.lane → IsCollected r s state lane → IsCollected r s' state' lane
  old lane ne q = record {
    place = q.place;
    known = q.known;
    at = ap (λ (l : List Gathered). get_elem? l q.place) gathered_is ∙ at_left s.me.0.gathered _ q.place q.known q.at;
    lane_is = q.lane_is;
    lane_state = ap (λ (x : StateValue). lane_of x lane) t.state ∙ get_or-set_other state.lanes m.lane lane _ no_lane ne ∙ q.lane_state;
    stored = q.stored;
    done = q.done;
  }

  new : (lane : ℕ) → lane ≡ m.lane → IsCollected r s' state' lane
  new lane is = record {
    place = length s.me.0.gathered;
    known = record { lane = m.lane; knows = t.known };
    at = ap (λ (l : List Gathered). get_elem? l (length s.me.0.gathered)) gathered_is ∙ at_seam s.me.0.gathered (record { lane = m.lane; knows = t.known });
    lane_is = sym is;
    lane_state = ap (λ (x : StateValue). lane_of x lane) t.state ∙ ap (λ (i : ℕ). get_or (set state.lanes m.lane (record { done = t.known.done; frame = t.known.frame })) i no_lane) is ∙ get_or-set_same state.lanes m.lane _ no_lane there;
    stored = t.stored;
    done = t.done ∙ done_all r z m ok mine ∙ ap (count_at (counted_all (counts_of (start_of r)) (events_of r))) (sym is);
  }

  pub collecting_more : IsCollecting r z s' state' rest
  collecting_more = record {
    gathering = record {
      table = t.table ∙ c.gathering.table;
      role = ap (λ (v : View). v.role) t.view ∙ c.gathering.role;
      key = ap (λ (v : View). v.key) t.view ∙ c.gathering.key;
      empty = t.empty ∙ c.gathering.empty;
    };
    each = λ n h. c.each n (has_left n rest (m ∷ []) h);
    every = λ lane lt. by lane (cases_eq lane m.lane) (c.every lane lt);
    lanes = ap (λ (x : StateValue). length x.lanes) t.state ∙ length-set state.lanes m.lane _ ∙ c.lanes;
    variables = ap (λ (x : StateValue). x.variables) t.state ∙ c.variables;
    queues = ap (λ (x : StateValue). x.queues) t.state ∙ c.queues;
    semaphores = ap (λ (x : StateValue). x.semaphores) t.state ∙ c.semaphores;
    clients = ap (λ (x : StateValue). x.clients) t.state ∙ c.clients;
  }
    where
      by : (lane : ℕ) → (lane ≡ m.lane) ⊎ (lane ≡ m.lane → ⊥) → IsCollected r s state lane ⊎ ((n : LaneSeat) × Has n (rest ++ m ∷ []) × (n.lane ≡ lane)) → IsCollected r s' state' lane ⊎ ((n : LaneSeat) × Has n rest × (n.lane ≡ lane))
      by lane (inl is) h = inl (new lane is)
      by lane (inr ne) (inl h) = inl (old lane ne h)
      by lane (inr ne) (inr h) = ⊎_elim (λ (q : Has h.0 rest). inr (h.0, q, h.2))
          (λ (q : Has h.0 (m ∷ [])). ⊎_elim (λ (same : m ≡ h.0). absurd (ne (sym (ap (λ (x : LaneSeat). x.lane) same ∙ h.2)))) (λ (none : ⊥). absurd none) q)
          (has_parts h.0 rest (m ∷ []) h.1)
