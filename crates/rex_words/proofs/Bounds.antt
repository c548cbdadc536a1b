-- Counts of events, and the stamps that they leave room for.
use Rattle.std.proofs.Common.{◌≡◌, ◌≢◌, ◌⊎◌, inl, inr, ℕ, zero, suc, ◌+◌, ◌*◌, ◌<◌, ◌≤◌, arith, List, [], ◌∷◌, ◌++◌, length, sym, refl, ap, ◌∙◌, subst, length-set}
use Rattle.std.specs.Prelude.{max, Some}
use Rattle.std.proofs.lemmas.Bool.{eq-eqb, ne_eqb, cases_eq}
use Rattle.std.proofs.lemmas.Nat.{div-mul-add}
use Rattle.rex_syntax.specs.declared.service.Declarations.{Declarations}
use Rattle.rex_event.specs.declared.event.Event.{Event}
use Rattle.rex_event.specs.Order.{Has}
use Rattle.rex_event.specs.Limits.{most_lanes}
use Rattle.rex_state.specs.Value.{StateValue}
use Rattle.rex_state.specs.Machine.{run}
use Rattle.rex_state.specs.Start.{start_of}
use Rattle.rex_state.specs.Sound.{IsSound}
use Rattle.rex_state.proofs.Keep.{next_is}
use Rattle.rex_state.proofs.Run.{run-first}
use Rattle.rex_state.proofs.Sounds.{start_keeps}
use Rattle.rex_words.specs.declared.assignment.Assignment.{Assignment}
use Rattle.rex_words.specs.declared.stamped.Stamped.{Stamped}
use Rattle.rex_words.specs.declared.view.Knowledge.{Knowledge}
use Rattle.rex_words.specs.Words.{stamp_in}
use Rattle.rex_words.specs.Stamps.{event_of, events_in, is_of, is_on, greatest_stamp, lock_stamp}
use Rattle.rex_words.specs.Alone.{service_of}
use Rattle.rex_words.specs.Moment.{locks_in, lock_word, events_known, IsAssignment, IsCommon, IsBounded}
use Rattle.rex_words.specs.Kept.{with_known}
use Rattle.rex_words.proofs.Order.{stamp_below, has_kept, kept_least}

-- ---- what is known, with something else of one lane

pub put_here : (know : ℕ → Knowledge) (lane : ℕ) (k : Knowledge) (l : ℕ) → l ≡ lane → with_known know lane k l ≡ k
put_here know lane k l e = rw (eq-eqb l lane e) refl

pub put_else : (know : ℕ → Knowledge) (lane : ℕ) (k : Knowledge) (l : ℕ) → l ≢ lane → with_known know lane k l ≡ know l
put_else know lane k l n = rw (ne_eqb l lane n) refl

abbrev size_of : (ℕ → Knowledge) → ℕ → ℕ
size_of know lane = length (know lane).list

-- ---- counts

counted_else : (know : ℕ → Knowledge) (lane : ℕ) (k : Knowledge) (n : ℕ) → n ≤ lane → events_known (with_known know lane k) n ≡ events_known know n
counted_else know lane k zero h = refl
counted_else know lane k (suc n) h =
    let a : events_known (with_known know lane k) n ≡ events_known know n = counted_else know lane k n (omega arith) in
    let b : size_of (with_known know lane k) n ≡ size_of know n = ap (λ (x : Knowledge). length x.list) (put_else know lane k n (omega arith)) in
    omega arith

pub counted_with : (know : ℕ → Knowledge) (lane : ℕ) (k : Knowledge) (n : ℕ) → lane < n → events_known (with_known know lane k) n + size_of know lane ≡ events_known know n + length k.list
counted_with know lane k zero h = absurd (omega arith)
counted_with know lane k (suc n) h = by (counted_with know lane k n) (cases_eq n lane)
  where
    by : (lane < n → events_known (with_known know lane k) n + size_of know lane ≡ events_known know n + length k.list) → (n ≡ lane) ⊎ (n ≡ lane → ⊥)
        → events_known (with_known know lane k) (suc n) + size_of know lane ≡ events_known know (suc n) + length k.list
    by rest (inl e) =
        let a : events_known (with_known know lane k) n ≡ events_known know n = counted_else know lane k n (omega arith) in
        let b : size_of (with_known know lane k) n ≡ length k.list = ap (λ (x : Knowledge). length x.list) (put_here know lane k n e) in
        let c : size_of know n ≡ size_of know lane = ap (size_of know) e in
        omega arith
    by rest (inr ne) =
        let a : events_known (with_known know lane k) n + size_of know lane ≡ events_known know n + length k.list = rest (omega arith) in
        let b : size_of (with_known know lane k) n ≡ size_of know n = ap (λ (x : Knowledge). length x.list) (put_else know lane k n ne) in
        omega arith

few_all : (know : ℕ → Knowledge) (n : ℕ) → ((l : ℕ) → l < n → size_of know l ≤ 1000000) → events_known know n ≤ n * 1000000
few_all know zero h = omega arith
few_all know (suc n) h =
    let a : events_known know n ≤ n * 1000000 = few_all know n (λ l lt. h l (omega arith)) in
    let b : size_of know n ≤ 1000000 = h n (omega arith) in
    omega arith

few_others : (know : ℕ → Knowledge) (lane n : ℕ) → ((l : ℕ) → l < n → size_of know l ≤ 1000000) → lane < n → events_known know n + 1000000 ≤ size_of know lane + n * 1000000
few_others know lane zero h lt = absurd (omega arith)
few_others know lane (suc n) h lt = by (few_others know lane n (λ l lt'. h l (omega arith))) (cases_eq n lane)
  where
    by : (lane < n → events_known know n + 1000000 ≤ size_of know lane + n * 1000000) → (n ≡ lane) ⊎ (n ≡ lane → ⊥) → events_known know (suc n) + 1000000 ≤ size_of know lane + suc n * 1000000
    by rest (inl e) =
        let a : events_known know n ≤ n * 1000000 = few_all know n (λ l lt'. h l (omega arith)) in
        let c : size_of know n ≡ size_of know lane = ap (size_of know) e in
        omega arith
    by rest (inr ne) =
        let a : events_known know n + 1000000 ≤ size_of know lane + n * 1000000 = rest (omega arith) in
        let b : size_of know n ≤ 1000000 = h n (omega arith) in
        omega arith

-- ---- bounds stay

module _ (r : Assignment) (know : ℕ → Knowledge) (lane : ℕ) (b : IsBounded r know) (inside : lane < (service_of r).lanes) (k : Knowledge) where
  abbrev all : ℕ
  all = (service_of r).lanes

  -- where the lane has one event more, and its stamp is at most one above
  pub bounded_more : length k.list ≡ size_of know lane + 1 → length k.list ≤ 1000000 → greatest_stamp k.list ≤ events_known know all + 1 → IsBounded r (with_known know lane k)
  bounded_more one few top = record { few = λ l h. few_at l h (cases_eq l lane); stamps = λ l h. stamp_at l h (cases_eq l lane) }
    where
      total : events_known (with_known know lane k) all ≡ events_known know all + 1
      total = let c = counted_with know lane k all inside in omega arith

      few_at : (l : ℕ) → l < all → (l ≡ lane) ⊎ (l ≡ lane → ⊥) → size_of (with_known know lane k) l ≤ 1000000
      few_at l h (inl e) = subst (λ (x : Knowledge). length x.list ≤ 1000000) (sym (put_here know lane k l e)) few
      few_at l h (inr ne) = subst (λ (x : Knowledge). length x.list ≤ 1000000) (sym (put_else know lane k l ne)) (b.few l h)

      stamp_at : (l : ℕ) → l < all → (l ≡ lane) ⊎ (l ≡ lane → ⊥) → greatest_stamp (with_known know lane k l).list ≤ events_known (with_known know lane k) all
      stamp_at l h (inl e) = subst (λ (x : Knowledge). greatest_stamp x.list ≤ events_known (with_known know lane k) all) (sym (put_here know lane k l e)) (let t = total in omega arith)
      stamp_at l h (inr ne) = subst (λ (x : Knowledge). greatest_stamp x.list ≤ events_known (with_known know lane k) all) (sym (put_else know lane k l ne)) (let t = total in let s : greatest_stamp (know l).list ≤ events_known know all = b.stamps l h in omega arith)

  -- where its list is the same
  pub bounded_same : k.list ≡ (know lane).list → IsBounded r (with_known know lane k)
  bounded_same same = record { few = λ l h. few_at l h (cases_eq l lane); stamps = λ l h. stamp_at l h (cases_eq l lane) }
    where
      total : events_known (with_known know lane k) all ≡ events_known know all
      total = let c = counted_with know lane k all inside in let e : length k.list ≡ size_of know lane = ap length same in omega arith

      few_at : (l : ℕ) → l < all → (l ≡ lane) ⊎ (l ≡ lane → ⊥) → size_of (with_known know lane k) l ≤ 1000000
      few_at l h (inl e) = subst (λ (x : Knowledge). length x.list ≤ 1000000) (sym (put_here know lane k l e)) (subst (λ (xs : List Stamped). length xs ≤ 1000000) (sym same) (b.few lane inside))
      few_at l h (inr ne) = subst (λ (x : Knowledge). length x.list ≤ 1000000) (sym (put_else know lane k l ne)) (b.few l h)

      stamp_at : (l : ℕ) → l < all → (l ≡ lane) ⊎ (l ≡ lane → ⊥) → greatest_stamp (with_known know lane k l).list ≤ events_known (with_known know lane k) all
      stamp_at l h (inl e) =
          let s : greatest_stamp (know lane).list ≤ events_known know all = b.stamps lane inside in
          let q : greatest_stamp k.list ≡ greatest_stamp (know lane).list = ap greatest_stamp same in
          subst (λ (x : Knowledge). greatest_stamp x.list ≤ events_known (with_known know lane k) all) (sym (put_here know lane k l e)) (let t = total in omega arith)
      stamp_at l h (inr ne) = subst (λ (x : Knowledge). greatest_stamp x.list ≤ events_known (with_known know lane k) all) (sym (put_else know lane k l ne)) (let t = total in let s : greatest_stamp (know l).list ≤ events_known know all = b.stamps l h in omega arith)

-- ---- stamps

pub stamp_last : (xs : List Stamped) (x : Stamped) → greatest_stamp (xs ++ x ∷ []) ≡ max (greatest_stamp xs) x.stamp
stamp_last [] x = omega arith
stamp_last (y ∷ xs) x = let e = stamp_last xs x in omega arith

lanes_in : (service : Declarations) (es : List Event) (s t : StateValue) (count : ℕ) → length s.lanes ≡ count → run service s es ≡ Some t → (e : Event) → Has e es → e.lane < count
lanes_in service [] s t count long h e there = absurd there
lanes_in service (x ∷ es) s t count long h e (inl q) = let f = run-first service s t x es h in subst (λ (y : Event). y.lane < count) q (let l = (next_is service s x f.0 f.1).enabled.there in omega arith)
lanes_in service (x ∷ es) s t count long h e (inr q) =
    let f = run-first service s t x es h in
    lanes_in service es f.0 t count (ap (λ (a : StateValue). length a.lanes) (sym (next_is service s x f.0 f.1).is) ∙ length-set s.lanes x.lane _ ∙ long) f.2 e q

has_event : (xs : List Stamped) (x : Stamped) → Has x xs → Has x.event (events_in xs)
has_event [] x h = absurd h
has_event (y ∷ xs) x (inl q) = inl (ap event_of q)
has_event (y ∷ xs) x (inr q) = inr (has_event xs x q)

module _ (r : Assignment) (words : List ℕ) (know : ℕ → Knowledge) (a : IsAssignment r) (c : IsCommon r words know) (b : IsBounded r know) where
  start_sound : IsSound (service_of r) (start_of (service_of r))
  start_sound = start_keeps (service_of r) a.good a.checked

  pub in_lanes : (x : Stamped) → Has x c.history → x.event.lane < (service_of r).lanes
  in_lanes x h = lanes_in (service_of r) (events_in c.history) (start_of (service_of r)) c.state (service_of r).lanes start_sound.by.complete.lanes c.recorded.runs x.event (has_event c.history x h)

  stamp_few : (x : Stamped) → Has x c.history → x.stamp ≤ events_known know (service_of r).lanes
  stamp_few x h =
      let inside = in_lanes x h in
      let own : Has x (know x.event.lane).list = subst (λ (xs : List Stamped). Has x xs) (sym (c.lanes x.event.lane inside).list) (has_kept (is_of x.event.lane) c.history x h (eq-eqb x.event.lane x.event.lane refl)) in
      let low : x.stamp ≤ greatest_stamp (know x.event.lane).list = stamp_below (know x.event.lane).list x own in
      let top : greatest_stamp (know x.event.lane).list ≤ events_known know (service_of r).lanes = b.stamps x.event.lane inside in
      omega arith

  -- the stamp in a lock's word is at most the number of all events
  pub word_few : (lock : ℕ) → lock < locks_in r → stamp_in (lock_word words lock) ≤ events_known know (service_of r).lanes
  word_few lock h =
      let w = c.locks lock h in
      let s : stamp_in (lock_word words lock) ≡ lock_stamp c.history lock = ap stamp_in w.is ∙ div-mul-add (lock_stamp c.history lock) 128 w.owner w.holder.small in
      let low : lock_stamp c.history lock ≤ events_known know (service_of r).lanes = kept_least (is_on lock) c.history (events_known know (service_of r).lanes) (λ x q k. stamp_few x q) in
      omega arith

  -- so it is no greater than the number of one lane's events and 63,000,000
  pub word_low : (lock lane : ℕ) → lock < locks_in r → lane < (service_of r).lanes → stamp_in (lock_word words lock) ≤ size_of know lane + 63000000
  word_low lock lane h inside =
      let top = word_few lock h in
      let others = few_others know lane (service_of r).lanes b.few inside in
      let lanes : (service_of r).lanes ≤ most_lanes = a.good.lanes in
      omega arith
