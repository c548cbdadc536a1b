-- Numbered events stand once in their list, and in each rearrangement of it.
use Rattle.std.proofs.Common.{◌≡◌, inl, inr, ℕ, ◌<◌, arith, Bool, true, false, cond, List, [], ◌∷◌, refl, sym, ap, ◌∙◌, subst}
use Rattle.std.specs.Prelude.{◌&&◌, nat_eq, IsPermutation}
use Rattle.std.specs.List.{All, AllByRecursion, IsDistinct, filter}
use Rattle.std.specs.Cmp.{nat_eq_equiv}
use Rattle.std.proofs.lemmas.Bool.{true≢false, eqb-true, and_parts, false_from_ne_true}
use Rattle.std.proofs.lemmas.List.Elements.{All-head, All-tail}
use Rattle.std.proofs.lemmas.List.Sorted.{All-permutation, IsPermutation-sym}
use Rattle.std.proofs.lemmas.Map.Keys.{IsDistinct-IsPermutation}
use Rattle.rex_event.specs.declared.event.Event.{Event}
use Rattle.rex_event.specs.Order.{Has, Precedes}
use Rattle.rex_event.specs.Cuts.{AreNumbered, counted, is_below, below}
use Rattle.rex_clocks.proofs.Leads.{all_from_has}
use Rattle.rex_clocks.proofs.Numbered.{numbered_later}
use Rattle.rex_order.proofs.Lists.{NoneTwice, AreAlike, kept_there}

-- whether two events have one lane and one index
abbrev same_id : Event → Event → Bool
same_id x y = nat_eq x.lane y.lane && nat_eq x.index y.index

id_flips : (x y : Event) → same_id x y ≡ same_id y x
id_flips x y = ap (λ (b : Bool). b && nat_eq x.index y.index) (nat_eq_equiv.symm x.lane y.lane) ∙ ap (λ (b : Bool). nat_eq y.lane x.lane && b) (nat_eq_equiv.symm x.index y.index)

id_itself : (x : Event) → same_id x x ≡ true
id_itself x = ap (λ (b : Bool). b && nat_eq x.index x.index) (nat_eq_equiv.refl x.lane) ∙ nat_eq_equiv.refl x.index

later_differs : (counts : List ℕ) (x y : Event) (es : List Event) → AreNumbered counts (x ∷ es) → Has y es → same_id x y ≡ true → ⊥
later_differs counts x y es n h q =
    let w = and_parts (nat_eq x.lane y.lane) (nat_eq x.index y.index) q in
    let l : x.lane ≡ y.lane = eqb-true _ _ w.0 in
    let i : x.index ≡ y.index = eqb-true _ _ w.1 in
    let less : x.index < y.index = numbered_later counts x es y n h (sym l) in
    absurd (omega arith)

each : (P : Event → Type 0) (es : List Event) → ((y : Event) → Has y es → P y) → AllByRecursion P es
each P [] h = tt
each P (y ∷ es) h = (h y (inl refl), each P es (λ z k. h z (inr k)))

among : (P : Event → Type 0) (es : List Event) (y : Event) → AllByRecursion P es → Has y es → P y
among P [] y a h = absurd h
among P (x ∷ es) y a (inl e) = subst P e a.0
among P (x ∷ es) y a (inr h) = among P es y a.1 h

numbered_distinct : (counts : List ℕ) (es : List Event) → AreNumbered counts es → IsDistinct same_id es
unfolding IsDistinct
numbered_distinct counts [] n = tt
numbered_distinct counts (x ∷ es) n = (each (λ y. same_id x y ≡ false) es (λ y h. false_from_ne_true (same_id x y) (later_differs counts x y es n h)), numbered_distinct (counted counts x) es n.2)

distinct_none : (es : List Event) → IsDistinct same_id es → NoneTwice es
unfolding IsDistinct
distinct_none [] d = tt
distinct_none (x ∷ es) d = (λ h. true≢false (sym (id_itself x) ∙ among (λ y. same_id x y ≡ false) es x d.0 h), distinct_none es d.1)

-- numbered events stand once in their list
pub numbered_none : (counts : List ℕ) (es : List Event) → AreNumbered counts es → NoneTwice es
numbered_none counts es n = distinct_none es (numbered_distinct counts es n)

distinct_by : (keep : Event → Bool) (b : Bool) (x : Event) (es : List Event) → AllByRecursion (λ y. same_id x y ≡ false) es → IsDistinct same_id (filter keep es) → IsDistinct same_id (cond b (x ∷ filter keep es) (filter keep es))
unfolding IsDistinct
distinct_by keep true x es a d = (each (λ y. same_id x y ≡ false) (filter keep es) (λ y h. among (λ y. same_id x y ≡ false) es y a (kept_there keep es y h).0), d)
distinct_by keep false x es a d = d

distinct_kept : (keep : Event → Bool) (es : List Event) → IsDistinct same_id es → IsDistinct same_id (filter keep es)
unfolding IsDistinct
distinct_kept keep [] d = tt
distinct_kept keep (x ∷ es) d = distinct_by keep (keep x) x es d.0 (distinct_kept keep es d.1)

has_by_all : (P : Event → Type 0) (es : List Event) (y : Event) → All P es → Has y es → P y
has_by_all P [] y a h = absurd h
has_by_all P (x ∷ es) y a (inl e) = subst P e (All-head P x es a)
has_by_all P (x ∷ es) y a (inr h) = has_by_all P es y (All-tail P x es a) h

permuted_has : (es fs : List Event) → IsPermutation es fs → (y : Event) → Has y fs → Has y es
permuted_has es fs p y h = has_by_all (λ x. Has x es) fs y (All-permutation (λ x. Has x es) es fs p (all_from_has (λ x. Has x es) es (λ x k. k))) h

-- a rearrangement of numbered events has the same ones, each once
pub numbered_alike : (counts : List ℕ) (es fs : List Event) → AreNumbered counts es → IsPermutation es fs → AreAlike es fs
numbered_alike counts es fs n p = record {
  to = permuted_has fs es (IsPermutation-sym es fs p);
  back = permuted_has es fs p;
  none = numbered_none counts es n;
  other = distinct_none fs (IsDistinct-IsPermutation same_id id_flips es fs p (numbered_distinct counts es n));
}

-- nor does any stand twice in a rearrangement of those below a cut
pub below_none : (counts : List ℕ) (es : List Event) (cut : List ℕ) (fs : List Event) → AreNumbered counts es → IsPermutation (below cut es) fs → NoneTwice fs
below_none counts es cut fs n p = distinct_none fs (IsDistinct-IsPermutation same_id id_flips (below cut es) fs p (distinct_kept (is_below cut) es (numbered_distinct counts es n)))

-- of two events of a lane the one with the lower index stands first
pub lower_first : (counts : List ℕ) (es : List Event) (d e : Event) → AreNumbered counts es → Has d es → Has e es → d.lane ≡ e.lane → d.index < e.index → Precedes d e es
lower_first counts [] d e n h k l i = absurd h
lower_first counts (x ∷ es) d e n (inl a) (inl b) l i = let same : d.index ≡ e.index = ap (λ (z : Event). z.index) (sym a ∙ b) in absurd (omega arith)
lower_first counts (x ∷ es) d e n (inl a) (inr k) l i = inl (a, k)
lower_first counts (x ∷ es) d e n (inr h) (inl b) l i =
    let later : x.index < d.index = numbered_later counts x es d n h (l ∙ sym (ap (λ (z : Event). z.lane) b)) in
    let same : x.index ≡ e.index = ap (λ (z : Event). z.index) b in
    absurd (omega arith)
lower_first counts (x ∷ es) d e n (inr h) (inr k) l i = inr (lower_first (counted counts x) es d e n.2 h k l i)
