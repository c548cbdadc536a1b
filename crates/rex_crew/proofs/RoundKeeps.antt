-- One more seat had its turn.
use Rattle.std.proofs.Common.{◌≡◌, ◌≢◌, ◌⊎◌, ℕ, zero, suc, ◌+◌, ◌≤◌, Bool, true, false, List, [], ◌∷◌, map, length, set, get_or, sum_by, sym, refl, ap, ◌∙◌, subst, ⊎_elim, inl, inr, arith}
use Rattle.std.proofs.lemmas.List.Sums.{sum_by-set}
use Rattle.std.specs.Prelude.{◌||◌}
use Rattle.std.proofs.lemmas.Bool.{true≢false}
use mathlib.Core.Option.{some, some-injective}
use lib.ListN.{get_elem?}
use Rattle.atomic_table.specs.Seated.{TableId}
use Rattle.atomic_table.proofs.Lists.{at_set, set_else}
use Rattle.rex_event.specs.declared.event.Event.{Event}
use Rattle.rex_event.specs.declared.delta.Cause.{Cause}
use Rattle.rex_board.specs.declared.recording.Recording.{Recording}
use Rattle.rex_board.specs.declared.seat.LaneSeat.{LaneSeat}
use Rattle.rex_board.specs.Recorded.{IsEventAt}
use Rattle.rex_board.specs.Turns.{loads_of, IsSeatOf, IsLater, IsNext, IsBlocked, HasNoneLeft}
use Rattle.rex_board.proofs.Reading.{there, one_value}
use Rattle.rex_board.proofs.Later.{later_trans}
use Rattle.rex_crew.specs.Rounds.{lane_of, done_of, IsStuck, IsRunning, IsTurn, IsSoFar, IsRound}

pub gets : {A : Type 0} (l : List A) (i : ℕ) (a : A) → get_elem? l i ≡ some a → get_or l i a ≡ a
gets [] i a e = refl
gets (x ∷ xs) zero a e = some-injective x a e
gets (x ∷ xs) (suc i) a e = gets xs i a e

map_same : {A : Type 0} (f : A → ℕ) (l : List A) (i : ℕ) (a b : A) → get_elem? l i ≡ some a → f b ≡ f a → map f (set l i b) ≡ map f l
map_same f [] i a b e h = refl
map_same f (x ∷ xs) zero a b e h = let g : f b ≡ f x = h ∙ ap f (sym (some-injective x a e)) in λ k. g k ∷ map f xs
map_same f (x ∷ xs) (suc i) a b e h = λ k. f x ∷ map_same f xs i a b e h k

sum_set : {A : Type 0} (f : A → ℕ) (l : List A) (i : ℕ) (a b : A) → get_elem? l i ≡ some a → sum_by f (set l i b) + f a ≡ sum_by f l + f b
sum_set f l i a b e = let g : f (get_or l i a) ≡ f a = ap f (gets l i a e) in let h = sum_by-set f l i b a (there l i a e) in omega (arith, h, g)

either : (a b : Bool) → (a || b) ≡ true → (a ≡ true) ⊎ (b ≡ true)
either true b h = inl refl
either false b h = inr h

module _ (z : TableId) (t : Recording) (ms : List LaneSeat) where
  pub one_more : (ns : List LaneSeat) (n : ℕ) (done : Bool) (blocked : ℕ) (d : Bool) (b : ℕ) (m m' : LaneSeat) → IsSoFar z t ms ns n done blocked → get_elem? ns n ≡ some m → IsTurn z t m m' d b
      → IsSoFar z t ms (set ns n m') (n + 1) (done || d) (blocked + b)
  one_more ns n done blocked d b m m' s at turn =
      let was : get_elem? ms n ≡ some m = sym (s.rest n (omega arith)) ∙ at in record {
        seats = λ k o e. ⊎_elim (λ (h : (k ≡ n) × (m' ≡ o)). subst (IsSeatOf t z) h.1 turn.seat) (λ (h : (k ≢ n) × (get_elem? ns k ≡ some o)). s.seats k o h.1) (at_set ns n k m' o e);
        lanes = map_same lane_of ns n m m' at turn.later.lane ∙ s.lanes;
        counted = let x = sum_set loads_of ns n m m' at in let y = turn.counted in let c = s.counted in omega arith;
        performed = let x = sum_set done_of ns n m m' at in let y = turn.later.done in let c = s.performed in omega arith;
        more = λ h.
            let x = sum_set done_of ns n m m' at in let y = turn.later.done in let c = s.performed in
            ⊎_elim (λ (e : done ≡ true). let f = s.more e in omega arith) (λ (e : d ≡ true). let f = turn.more e in omega arith) (either done d h);
        rest = λ k le. let ne : k ≢ n = omega arith in set_else ns n k m' ne ∙ s.rest k (omega arith);
        rises = λ k o o' e e'. ⊎_elim
            (λ (h : (k ≡ n) × (m' ≡ o')). let o_is : m ≡ o = one_value ms n m o was (subst (λ (x : ℕ). get_elem? ms x ≡ some o) h.0 e) in subst (λ (x : LaneSeat × LaneSeat). IsLater x.0 x.1) (λ i. (o_is i, h.1 i)) turn.later)
            (λ (h : (k ≢ n) × (get_elem? ns k ≡ some o')). s.rises k o o' e h.1) (at_set ns n k m' o' e');
        stuck = λ k o o' lt e e'. ⊎_elim
            (λ (h : (k ≡ n) × (m' ≡ o')). let o_is : m ≡ o = one_value ms n m o was (subst (λ (x : ℕ). get_elem? ms x ≡ some o) h.0 e) in
            subst (λ (x : LaneSeat × LaneSeat). HasNoneLeft t x.1 ⊎ IsStuck t x.0 x.1) (λ i. (o_is i, h.1 i)) turn.stuck)
            (λ (h : (k ≢ n) × (get_elem? ns k ≡ some o')). let ne : k ≢ n = h.0 in s.stuck k o o' (omega arith) e h.1) (at_set ns n k m' o' e');
        finished = λ bz k o lt e. ⊎_elim
            (λ (h : (k ≡ n) × (m' ≡ o)). subst (HasNoneLeft t) h.1 (turn.finished (omega arith)))
            (λ (h : (k ≢ n) × (get_elem? ns k ≡ some o)). let ne : k ≢ n = h.0 in s.finished (omega arith) k o (omega arith) h.1) (at_set ns n k m' o e);
        few = let x = s.few in let y = turn.few in omega arith;
      }

  pub whole_round : (ns : List LaneSeat) (n : ℕ) (done : Bool) (blocked : ℕ) → length ns ≤ n → IsSoFar z t ms ns n done blocked → IsRound z t ms ns done blocked
  whole_round ns n done blocked le s = record {
    seats = s.seats;
    lanes = s.lanes;
    counted = s.counted;
    performed = s.performed;
    more = s.more;
    rises = s.rises;
    stuck = λ k m m' e e'. let lt = there ns k m' e' in s.stuck k m m' (omega arith) e e';
    finished = λ bz k m e. let lt = there ns k m e in s.finished bz k m (omega arith) e;
  }

next_same : (t : Recording) (m m' : LaneSeat) (e : Event) → m'.lane ≡ m.lane → m'.done ≡ m.done → IsNext t m e → IsNext t m' e
next_same t m m' e lane done n = subst (λ (x : ℕ × ℕ). IsEventAt t x.0 x.1 e) (λ i. (sym lane i, sym done i)) n

-- a seat that is stuck since a moment is so since an earlier one
pub stuck_since : (t : Recording) (m n o : LaneSeat) → IsLater m n → IsStuck t n o → IsStuck t m o
stuck_since t m n o a s = record { event = s.event; next = s.next; causes = s.causes; are = s.are; cause = s.cause; is_cause = s.is_cause; counted = let x = a.loads in let y = s.counted in omega (arith, x, y); noted = s.noted }

is_stuck : (t : Recording) (m m' : LaneSeat) (c : Cause) (seen : ℕ) → IsLater m m' → IsBlocked t m m' c seen → IsStuck t m m'
is_stuck t m m' c seen later b = record {
  event = b.event;
  next = next_same t m m' b.event later.lane b.same b.next;
  causes = b.causes;
  are = b.are;
  cause = c;
  is_cause = b.cause;
  counted = b.missing.counted;
  noted = (b.missing.noted.0, let x = b.missing.missing in let y = b.missing.noted.1 in omega (arith, x, y));
}

-- a turn that ends blocked
pub blocked_turn : (z : TableId) (t : Recording) (m n : LaneSeat) (done : Bool) → IsRunning z t m n done → (o : LaneSeat) (c : Cause) (seen : ℕ) → IsSeatOf t z o → IsLater n o → IsBlocked t n o c seen → IsTurn z t m o done 1
blocked_turn z t m n done run o c seen s later b = record {
  seat = s;
  later = later_trans m n o run.later later;
  more = λ d. let x = run.more d in let y = b.same in omega (arith, x, y);
  counted = let x = run.later.loads in let y = b.missing.counted in omega (arith, x, y);
  stuck = inr (stuck_since t m n o run.later (is_stuck t n o c seen later b));
  finished = λ bz. absurd (omega arith);
  few = omega arith;
}
