-- Places of a lane's events in a numbered list.
use Rattle.std.proofs.Common.{◌≡◌, ◌≢◌, inl, inr, ℕ, zero, suc, ◌+◌, ◌-◌, ◌<◌, ◌≤◌, arith, List, [], ◌∷◌, length, drop, get_or, take, refl, sym, ap, ◌∙◌, subst}
use Rattle.std.proofs.lemmas.Bool.{eq-eqb, eqb-true}
use Rattle.std.proofs.lemmas.List.{get_or-map, get_or-drop, length-map, length-drop, take_all}
use Rattle.memchr.specs.Find.{Nowhere, NoneBefore, Passes, is_byte}
use Rattle.rex_event.specs.declared.event.Event.{Event}
use Rattle.rex_event.specs.declared.event.Kind.TheVariants.{TryBusy}
use Rattle.rex_event.specs.declared.delta.Cause.{Cause}
use Rattle.rex_event.specs.Order.{Has}
use Rattle.rex_event.specs.Cuts.{count_at, counted, counted_all, AreNumbered}
use Rattle.rex_event.specs.Causes.{HasCauses}
use Rattle.rex_state.specs.Counts.{counts_of}
use Rattle.rex_state.specs.Value.{StateValue}
use Rattle.rex_state.specs.Machine.{lane_of}
use Rattle.rex_state.proofs.Counts.{count_is}
use Rattle.rex_clocks.proofs.Numbered.{counted_same, counted_other, numbered_below, numbered_later}
use Rattle.rex_board.specs.declared.recording.Recording.{Recording}
use Rattle.rex_board.specs.Recorded.{IsRight, start_of, events_of, causes_of, IsEventAt, AreCausesOf}
use Rattle.rex_board.specs.Places.{lanes_in, HasNoneFrom, IsAtLane, IsNextPlace}
use Rattle.rex_board.specs.Turns.{IsPlaced}
use Rattle.rex_board.proofs.Reading.{has_at}
use Rattle.rex_board.proofs.Facts.{numbered}

-- ---- looked for among the lanes of the events

pub rest_is : (lanes : List ℕ) (from : ℕ) → take (length lanes - from) (drop from lanes) ≡ drop from lanes
rest_is lanes from = take_all (length lanes - from) (drop from lanes) (omega (arith, length-drop from lanes))

lane_at : (es : List Event) (k : ℕ) (d : Event) → k < length es → get_or (lanes_in es) k 0 ≡ (get_or es k d).lane
lane_at es k d l = get_or-map (λ (e : Event). e.lane) es k d 0 l

-- no byte after a place is the lane's
none_between : (es : List Event) (lanes : List ℕ) (from lane end : ℕ) → lanes ≡ lanes_in es → Nowhere (Passes (is_byte lane) (drop from lanes)) 0 end
    → (k : ℕ) (d : Event) → from ≤ k → k < from + end → k < length es → (get_or es k d).lane ≢ lane
none_between es lanes from lane end e none k d a b l q =
    let at : from + (k - from) ≡ k = omega (arith, a) in
    let byte : get_or (drop from lanes) (k - from) 0 ≡ lane =
    get_or-drop from lanes (k - from) 0 ∙ ap (λ (i : ℕ). get_or lanes i 0) at ∙ ap (λ (xs : List ℕ). get_or xs k 0) e ∙ lane_at es k d l ∙ q in
    none (k - from) (omega arith) (omega (arith, a, b)) (eq-eqb _ _ byte)

pub first_after : (es : List Event) (lanes : List ℕ) (from lane after : ℕ) → lanes ≡ lanes_in es → from ≤ length lanes
    → NoneBefore (Passes (is_byte lane) (drop from lanes)) 0 (length (drop from lanes)) after → Passes (is_byte lane) (drop from lanes) after → IsNextPlace es from lane (from + after)
first_after es lanes from lane after e some first found =
    let long : length lanes ≡ length es = ap length e ∙ length-map es (λ (e : Event). e.lane) in
    let inside : from + after < length es = omega (arith, first.high, length-drop from lanes, long) in
    record {
      behind = omega arith;
      inside = omega (arith, inside);
      none = λ k d a b. none_between es lanes from lane after e first.before k d a b (omega (arith, b, inside));
      at = record {
        lane_is = λ d l. sym (lane_at es (from + after) d inside) ∙ sym (ap (λ (xs : List ℕ). get_or xs (from + after) 0) e) ∙ sym (get_or-drop from lanes after 0) ∙ eqb-true _ _ found;
      };
    }

pub none_after : (es : List Event) (lanes : List ℕ) (from lane : ℕ) → lanes ≡ lanes_in es → from ≤ length lanes
    → Nowhere (Passes (is_byte lane) (drop from lanes)) 0 (length (drop from lanes)) → IsNextPlace es from lane (length lanes)
none_after es lanes from lane e some none =
    let long : length lanes ≡ length es = ap length e ∙ length-map es (λ (e : Event). e.lane) in
    record {
      behind = some;
      inside = omega (arith, long);
      none = λ k d a b. none_between es lanes from lane (length (drop from lanes)) e none k d a (omega (arith, a, b, length-drop from lanes, some)) (omega (arith, b, long));
      at = record { lane_is = λ d l. absurd (omega (arith, l, long)) };
    }

-- ---- the first event of a lane

first_index : (counts : List ℕ) (es : List Event) (k lane : ℕ) (d : Event) → AreNumbered counts es → k < length es → ((j : ℕ) → j < k → (get_or es j d).lane ≢ lane) → (get_or es k d).lane ≡ lane → (get_or es k d).index ≡ count_at counts lane
first_index counts [] k lane d n lt none is = absurd (omega arith)
first_index counts (x ∷ es) zero lane d n lt none is = n.1 ∙ ap (count_at counts) is
first_index counts (x ∷ es) (suc k) lane d n lt none is =
    first_index (counted counts x) es k lane d n.2 (omega arith) (λ j l. none (suc j) (omega arith)) is
    ∙ counted_other counts x lane (λ q. none 0 (omega arith) (sym q))

first_more : (counts : List ℕ) (es : List Event) (k lane : ℕ) (d : Event) → AreNumbered counts es → k < length es → ((j : ℕ) → j < k → (get_or es j d).lane ≢ lane) → (get_or es k d).lane ≡ lane
    → count_at (counted_all counts (take (suc k) es)) lane ≡ count_at counts lane + 1
first_more counts [] k lane d n lt none is = absurd (omega arith)
first_more counts (x ∷ es) zero lane d n lt none is = ap (count_at (counted counts x)) (sym is) ∙ counted_same counts x n.0 ∙ ap (λ (i : ℕ). i + 1) (n.1 ∙ ap (count_at counts) is)
first_more counts (x ∷ es) (suc k) lane d n lt none is =
    first_more (counted counts x) es k lane d n.2 (omega arith) (λ j l. none (suc j) (omega arith)) is
    ∙ ap (λ (i : ℕ). i + 1) (counted_other counts x lane (λ q. none 0 (omega arith) (sym q)))

-- ---- the first one from a place on

from_index : (counts : List ℕ) (es : List Event) (from k lane : ℕ) (d : Event) → AreNumbered counts es → from ≤ k → k < length es → ((j : ℕ) → from ≤ j → j < k → (get_or es j d).lane ≢ lane) → (get_or es k d).lane ≡ lane
    → ((get_or es k d).index ≡ count_at (counted_all counts (take from es)) lane) × (count_at (counted_all counts (take (suc k) es)) lane ≡ count_at (counted_all counts (take from es)) lane + 1)
from_index counts es zero k lane d n le lt none is = (first_index counts es k lane d n lt (λ j l. none j (omega arith) l) is, first_more counts es k lane d n lt (λ j l. none j (omega arith) l) is)
from_index counts [] (suc from) k lane d n le lt none is = absurd (omega arith)
from_index counts (x ∷ es) (suc from) zero lane d n le lt none is = absurd (omega arith)
from_index counts (x ∷ es) (suc from) (suc k) lane d n le lt none is = from_index (counted counts x) es from k lane d n.2 (omega arith) (omega arith) (λ j a b. none (suc j) (omega arith) (omega arith)) is

-- ---- places with no event of a lane between them

first_same : (counts : List ℕ) (es : List Event) (k lane : ℕ) (d : Event) → k ≤ length es → ((j : ℕ) → j < k → (get_or es j d).lane ≢ lane) → count_at (counted_all counts (take k es)) lane ≡ count_at counts lane
first_same counts es zero lane d le none = refl
first_same counts [] (suc k) lane d le none = absurd (omega arith)
first_same counts (x ∷ es) (suc k) lane d le none =
    first_same (counted counts x) es k lane d (omega arith) (λ j l. none (suc j) (omega arith)) ∙ counted_other counts x lane (λ q. none 0 (omega arith) (sym q))

from_same : (counts : List ℕ) (es : List Event) (from k lane : ℕ) (d : Event) → from ≤ k → k ≤ length es → ((j : ℕ) → from ≤ j → j < k → (get_or es j d).lane ≢ lane)
    → count_at (counted_all counts (take k es)) lane ≡ count_at (counted_all counts (take from es)) lane
from_same counts es zero k lane d le most none = first_same counts es k lane d most (λ j l. none j (omega arith) l)
from_same counts es (suc from) zero lane d le most none = absurd (omega arith)
from_same counts [] (suc from) (suc k) lane d le most none = absurd (omega arith)
from_same counts (x ∷ es) (suc from) (suc k) lane d le most none = from_same (counted counts x) es from k lane d (omega arith) (omega arith) (λ j a b. none (suc j) (omega arith) (omega arith))

-- ---- no more events of a lane

count_none : (counts : List ℕ) (es : List Event) (lane : ℕ) (d : Event) → ((k : ℕ) → k < length es → (get_or es k d).lane ≢ lane) → count_at (counted_all counts es) lane ≡ count_at counts lane
count_none counts [] lane d none = refl
count_none counts (x ∷ es) lane d none = count_none (counted counts x) es lane d (λ k l. none (suc k) (omega arith)) ∙ counted_other counts x lane (λ q. none 0 (omega arith) (sym q))

count_last : (counts : List ℕ) (es : List Event) (from lane : ℕ) (d : Event) → ((k : ℕ) → from ≤ k → k < length es → (get_or es k d).lane ≢ lane) → count_at (counted_all counts (take from es)) lane ≡ count_at (counted_all counts es) lane
count_last counts es zero lane d none = sym (count_none counts es lane d (λ k l. none k (omega arith) l))
count_last counts [] (suc from) lane d none = refl
count_last counts (x ∷ es) (suc from) lane d none = count_last (counted counts x) es from lane d (λ k a b. none (suc k) (omega arith) (omega arith))

-- ---- causes

causes_at : (es : List Event) (causes : List (List Cause)) (k : ℕ) (d : Event) (c : List Cause) → k < length es → length causes ≡ length es → HasCauses (get_or es k d) (get_or causes k c) es causes
causes_at [] causes k d c lt long = absurd (omega arith)
causes_at (x ∷ es) [] k d c lt long = absurd (omega arith)
causes_at (x ∷ es) (a ∷ causes) zero d c lt long = inl (refl, refl)
causes_at (x ∷ es) (a ∷ causes) (suc k) d c lt long = inr (causes_at es causes k d c (omega arith) (omega arith))

causes_there : (es : List Event) (causes : List (List Cause)) (e : Event) (list : List Cause) → HasCauses e list es causes → Has e es
causes_there [] causes e list h = absurd h
causes_there (x ∷ es) [] e list h = absurd h
causes_there (x ∷ es) (a ∷ causes) e list (inl h) = inl h.0
causes_there (x ∷ es) (a ∷ causes) e list (inr h) = inr (causes_there es causes e list h)

twice : (counts : List ℕ) (x : Event) (es : List Event) (e : Event) → AreNumbered counts (x ∷ es) → x ≡ e → Has e es → ⊥
twice counts x es e n q h = let l : x.index < e.index = numbered_later counts x es e n h (ap (λ (z : Event). z.lane) (sym q)) in let s : x.index ≡ e.index = ap (λ (z : Event). z.index) q in absurd (omega arith)

-- an event stands with one list of causes
causes_once : (counts : List ℕ) (es : List Event) (causes : List (List Cause)) (e : Event) (a b : List Cause) → AreNumbered counts es → HasCauses e a es causes → HasCauses e b es causes → a ≡ b
causes_once counts [] causes e a b n h k = absurd h
causes_once counts (x ∷ es) [] e a b n h k = absurd h
causes_once counts (x ∷ es) (c ∷ causes) e a b n (inl h) (inl k) = sym h.1 ∙ k.1
causes_once counts (x ∷ es) (c ∷ causes) e a b n (inl h) (inr k) = absurd (twice counts x es e n h.0 (causes_there es causes e b k))
causes_once counts (x ∷ es) (c ∷ causes) e a b n (inr h) (inl k) = absurd (twice counts x es e n k.0 (causes_there es causes e a h))
causes_once counts (x ∷ es) (c ∷ causes) e a b n (inr h) (inr k) = causes_once (counted counts x) es causes e a b n.2 h k

-- some event, where none is looked at
pub no_event : Event
no_event = record { lane = 0; index = 0; kind = TryBusy 0 }

-- ---- of a recording

module _ (r : Recording) (ok : IsRight r) (lane done from : ℕ) (p : IsPlaced r lane done from) where
  -- the event of the lane at the place is its next one
  pub next_at : (d : Event) → from < length (events_of r) → IsAtLane (events_of r) lane from → IsEventAt r lane done (get_or (events_of r) from d)
  next_at d lt at = record {
    there = has_at (events_of r) from d lt;
    lane_is = at.lane_is d lt;
    index_is = (from_index (counts_of (start_of r)) (events_of r) from from lane d (numbered r ok) (omega arith) lt (λ j a b. absurd (omega arith)) (at.lane_is d lt)).0 ∙ sym p.done_is;
  }

  -- the lane's place may be any further one with no event of the lane between them
  pub placed_further : (d : Event) (k : ℕ) → IsNextPlace (events_of r) from lane k → IsPlaced r lane done k
  placed_further d k f = record {
    inside = f.inside;
    done_is = p.done_is ∙ sym (from_same (counts_of (start_of r)) (events_of r) from k lane d f.behind f.inside (λ j a b. f.none j d a b));
  }

  -- once the event is done the lane's place is behind it
  pub placed_more : (d : Event) → from < length (events_of r) → IsAtLane (events_of r) lane from → IsPlaced r lane (done + 1) (from + 1)
  placed_more d lt at =
      let one : suc from ≡ from + 1 = omega arith in
      record {
        inside = omega (arith, lt);
        done_is =
            ap (λ (i : ℕ). i + 1) p.done_is
            ∙ sym (from_index (counts_of (start_of r)) (events_of r) from from lane d (numbered r ok) (omega arith) lt (λ j a b. absurd (omega arith)) (at.lane_is d lt)).1
            ∙ ap (λ (i : ℕ). count_at (counted_all (counts_of (start_of r)) (take i (events_of r))) lane) one;
      }

  -- where no event of the lane is left it did all that there are
  pub done_last : (d : Event) → HasNoneFrom (events_of r) from lane → done ≡ count_at (counted_all (counts_of (start_of r)) (events_of r)) lane
  done_last d h = p.done_is ∙ count_last (counts_of (start_of r)) (events_of r) from lane d (λ k a b. h.each k d a b)

  pub none_left : HasNoneFrom (events_of r) from lane → (e : Event) → Has e (events_of r) → e.lane ≡ lane → e.index < done
  none_left h e there is =
      let a : e.index < count_at (counted_all (counts_of (start_of r)) (events_of r)) e.lane = numbered_below (counts_of (start_of r)) (events_of r) e (numbered r ok) there in
      let b : count_at (counted_all (counts_of (start_of r)) (events_of r)) e.lane ≡ count_at (counted_all (counts_of (start_of r)) (events_of r)) lane = ap (count_at (counted_all (counts_of (start_of r)) (events_of r))) is in
      let c : done ≡ count_at (counted_all (counts_of (start_of r)) (events_of r)) lane = done_last e h in
      omega arith

module _ (r : Recording) (ok : IsRight r) (k : ℕ) (d : Event) (inside : k < length (events_of r)) where
  -- the causes at an event's place are its causes
  pub are_causes : (c : List Cause) → AreCausesOf r (get_or (events_of r) k d) (get_or (causes_of r) k c)
  are_causes c = causes_at (events_of r) (causes_of r) k d c inside ok.right.long

  -- and no others are
  pub only_causes : (c list : List Cause) → AreCausesOf r (get_or (events_of r) k d) list → list ≡ get_or (causes_of r) k c
  only_causes c list h = causes_once (counts_of (start_of r)) (events_of r) (causes_of r) (get_or (events_of r) k d) list (get_or (causes_of r) k c) (numbered r ok) h (are_causes c)

-- ---- the first place

-- a lane that has done what it did at the start, at the place of its first event
pub record IsFirstPlace (r : Recording) (lane done place : ℕ) : Type 0 where
  pub placed : IsPlaced r lane done place
  pub at : IsAtLane (events_of r) lane place

pub first_place : (r : Recording) (ok : IsRight r) (start : StateValue) (es : List Event) (lane done place : ℕ) → start ≡ start_of r → es ≡ events_of r → done ≡ (lane_of start lane).done → IsNextPlace es 0 lane place → IsFirstPlace r lane done place
first_place r ok start es lane done place same events is f =
    let further : IsNextPlace (events_of r) 0 lane place = subst (λ (l : List Event). IsNextPlace l 0 lane place) events f in
    let begins : IsPlaced r lane done 0 = record { inside = omega arith; done_is = is ∙ ap (λ (s : StateValue). (lane_of s lane).done) same ∙ sym (count_is (start_of r) lane) } in
    record { placed = placed_further r ok lane done 0 begins no_event place further; at = further.at }
