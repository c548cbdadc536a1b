-- What a step on a board finds.
use Rattle.std.proofs.Common.{◌≡◌, ◌≢◌, ℕ, ◌+◌, ◌<◌, ◌≤◌, ◌^◌, arith, List, length, get_or, sym, ap, ◌∙◌, subst}
use Rattle.atomic_table.specs.Seated.{TableId}
use Rattle.rex_syntax.specs.declared.service.Declarations.{Declarations}
use Rattle.rex_event.specs.Limits.{most_lanes}
use Rattle.rex_event.specs.declared.event.Event.{Event}
use Rattle.rex_event.specs.declared.delta.Cause.{Cause}
use Rattle.rex_event.specs.Order.{Has}
use Rattle.rex_event.specs.Cuts.{count_at}
use Rattle.rex_state.specs.Value.{StateValue}
use Rattle.rex_state.specs.Local.{GivesUp}
use Rattle.rex_board.specs.declared.recording.Recording.{Recording}
use Rattle.rex_board.specs.declared.seat.LaneSeat.{LaneSeat}
use Rattle.rex_board.specs.Recorded.{events_of, IsEventAt, AreCausesOf, IsCovered}
use Rattle.rex_board.specs.Places.{HasNoneFrom, IsAtLane, IsNextPlace}
use Rattle.rex_board.specs.Turns.{IsPlaced, IsSeatOf, IsReady, IsNext, HasNoneLeft, IsLater, IsLooking, IsMissing, IsFirstMissing, IsStore, IsDone, IsBlocked}
use Rattle.rex_board.specs.Boards.{IsBoardOf}
use Rattle.rex_board.proofs.Facts.{cause_lane}
use Rattle.rex_board.proofs.Placing.{next_at, placed_further, placed_more, none_left, are_causes, only_causes}
use Rattle.rex_board.proofs.Naming.{locks_there}
use Rattle.rex_board.proofs.Reading.{has_there}

module _ (r : Recording) (z : TableId) (service : Declarations) (state : StateValue) (es : List Event) (causes : List (List Cause)) (b : IsBoardOf r z service state es causes) (m : LaneSeat) (q : IsSeatOf r z m) where
  pub place_inside : m.place ≤ length es
  place_inside = omega (arith, q.placed.inside, ap length b.events_are)

  pub no_event : HasNoneFrom es m.place m.lane → HasNoneLeft r m
  no_event h = record { each = none_left r b.right m.lane m.done m.place q.placed (subst (λ (l : List Event). HasNoneFrom l m.place m.lane) b.events_are h) }

  -- the seat's place is no event's
  pub at_end : m.place ≡ length es → HasNoneLeft r m
  at_end is = no_event record { each = λ k d a b. absurd (omega arith) }

  module _ (other : m.place ≢ length es) where
    pub in_events : m.place < length es
    in_events = omega (arith, place_inside)

    inside : m.place < length (events_of r)
    inside = omega (arith, in_events, ap length b.events_are)

    event_is : (d : Event) → get_or es m.place d ≡ get_or (events_of r) m.place d
    event_is d = ap (λ (l : List Event). get_or l m.place d) b.events_are

    -- the event is the lane's next one
    pub next_is : (d : Event) → IsNext r m (get_or es m.place d)
    next_is d = subst (IsNext r m) (sym (event_is d)) (next_at r b.right m.lane m.done m.place q.placed d inside q.next)

    -- the list at its place are its causes, and only they are
    pub list_is : (d : Event) (c : List Cause) → AreCausesOf r (get_or es m.place d) (get_or causes m.place c)
    list_is d c =
        subst (λ (e : Event). AreCausesOf r e (get_or causes m.place c)) (sym (event_is d))
        (subst (λ (l : List (List Cause)). AreCausesOf r (get_or (events_of r) m.place d) (get_or l m.place c)) (sym b.causes_are) (are_causes r b.right m.place d inside c))

    only_list : (d : Event) (c list : List Cause) → AreCausesOf r (get_or es m.place d) list → list ≡ get_or causes m.place c
    only_list d c list h =
        only_causes r b.right m.place d inside c list (subst (λ (e : Event). AreCausesOf r e list) (event_is d) h) ∙ ap (λ (l : List (List Cause)). get_or l m.place c) (sym b.causes_are)

    pub lanes_of_causes : (d : Event) (list : List Cause) → list ≡ get_or causes m.place list → (c : Cause) → Has c list → c.lane < most_lanes
    lanes_of_causes d list is c h = cause_lane r b.right (get_or es m.place d) list c (subst (AreCausesOf r (get_or es m.place d)) (sym is) (list_is d list)) h

    pub names_lock : (d : Event) (lock : ℕ) → GivesUp (get_or es m.place d) lock → lock < 64
    names_lock d lock g = locks_there _ _ b.right.last (events_of r) (get_or es m.place d) lock b.right.good b.right.sound b.right.runs (next_is d).there g.0

    pub counts : (d : Event) → (get_or es m.place d).index + 1 < 2 ^ 32
    counts d = subst (λ (e : Event). e.index + 1 < 2 ^ 32) (sym (event_is d)) (b.right.counted.each m.place d inside)

    module _ (m' : LaneSeat) (looking : IsLooking m m') (d : Event) (list : List Cause) (is : list ≡ get_or causes m.place list) where
      pub is_ready : ((c : Cause) → Has c list → c.index < count_at m'.bounds c.lane) → IsReady r m' (get_or es m.place d)
      is_ready covered = record {
        next = subst (λ (x : ℕ × ℕ). IsEventAt r x.0 x.1 (get_or es m.place d)) (λ i. (sym looking.later.lane i, sym looking.done i)) (next_is d);
        covered = record { each = λ other c h there. covered c (subst (λ (l : List Cause). Has c l) (only_list d list other h ∙ sym is) there) };
      }

      pub is_blocked : (c : Cause) (seen : ℕ) → IsFirstMissing m'.bounds list c → IsMissing m m' c seen → IsBlocked r m m' c seen
      is_blocked c seen first missing = record {
        event = get_or es m.place d;
        next = next_is d;
        causes = list;
        are = subst (AreCausesOf r (get_or es m.place d)) (sym is) (list_is d list);
        cause = has_there list first.place c first.at;
        first = first;
        missing = missing;
        same = looking.done;
      }

      -- after the event
      module _ (n : LaneSeat) (later : IsLater m' n) (done : n.done ≡ m'.done + 1) (bounds : n.bounds ≡ m'.bounds) where
        pub is_done : IsStore n (get_or es m.place d) → ((c : Cause) → Has c list → c.index < count_at m'.bounds c.lane) → IsDone r m n (get_or es m.place d)
        is_done store covered = record {
          next = next_is d;
          covered = subst (λ bs. IsCovered r bs (get_or es m.place d)) (sym bounds) (is_ready covered).covered;
          one_more = done ∙ ap (λ (i : ℕ). i + 1) looking.done;
          store = store;
        }

        module _ (stays : n.place ≡ m'.place) (k : ℕ) (further : IsNextPlace es (n.place + 1) n.lane k) where
          same_lane : n.lane ≡ m.lane
          same_lane = later.lane ∙ looking.later.lane

          next_place : IsNextPlace (events_of r) (m.place + 1) m.lane k
          next_place = subst (λ (x : List Event × ℕ × ℕ). IsNextPlace x.0 (x.1 + 1) x.2 k) (λ i. (b.events_are i, (stays ∙ looking.place) i, same_lane i)) further

          pub is_placed : IsPlaced r n.lane n.done k
          is_placed = subst (λ (x : ℕ × ℕ). IsPlaced r x.0 x.1 k) (λ i. (sym same_lane i, sym (done ∙ ap (λ (j : ℕ). j + 1) looking.done) i))
              (placed_further r b.right m.lane (m.done + 1) (m.place + 1) (placed_more r b.right m.lane m.done m.place q.placed d inside q.next) d k next_place)

          pub is_at : IsAtLane (events_of r) n.lane k
          is_at = subst (λ (x : ℕ). IsAtLane (events_of r) x k) (sym same_lane) next_place.at

        pub done_small : n.done < 4294967296
        done_small =
            let count : (get_or es m.place d).index + 1 < 2 ^ 32 = counts d in
            let index : (get_or es m.place d).index ≡ m.done = (next_is d).index_is in
            let same : m'.done ≡ m.done = looking.done in
            omega (arith, count, index, same, done)
