-- The clocks that events show.
use Rattle.std.proofs.Common.{arith, ℤ, ◌≤ℤ◌, ◌≡◌, ℕ, pos, negsuc, true, Bool, false, cond, int_lt, List, [], ◌∷◌, ◌++◌, Option, Some, None, refl, sym, subst}
use Rattle.std.specs.Int.{int_max}
use Rattle.std.proofs.lemmas.Int.{clamps, ints}
use Rattle.std.proofs.lemmas.List.Elements.{All-nil, All-cons, All-head, All-tail, All-append}
use Rattle.rex_event.specs.declared.event.Event.{Event}
use Rattle.rex_cluster.specs.Values.{Value, events_of, trace_of}
use Rattle.rex_fits.specs.Applied.{IsNoLater, ShowNoLater, clock_after, greatest_clock, later_clock, later_of, shown_by}

-- ---- one clock

at_most_refl : (a : ℤ) → a ≤ℤ a
at_most_refl a = omega (arith, ints)

at_most_trans : (a b c : ℤ) → a ≤ℤ b → b ≤ℤ c → a ≤ℤ c
at_most_trans a b c h k = omega (arith, ints)

pub raised_first : (a b : ℤ) → a ≤ℤ int_max a b
raised_first a b = omega (arith, ints, clamps)

raised_last : (a b : ℤ) → b ≤ℤ int_max a b
raised_last a b = omega (arith, ints, clamps)

-- a clock that isn't below 0 stays so where it is raised
pub raised_reads : (a : ℕ) (b : ℤ) → (reads : ℕ) × (int_max (pos a) b ≡ pos reads)
raised_reads a (pos b) = by (int_lt (pos b) (pos a))
  where
    by : (t : Bool) → (reads : ℕ) × (cond t (pos a) (pos b) ≡ pos reads)
    by true = (a, refl)
    by false = (b, refl)
raised_reads a (negsuc b) = (a, refl)

later_reads : (a : ℕ) (o : Option ℤ) → (reads : ℕ) × (later_of (pos a) o ≡ pos reads)
later_reads a None = (a, refl)
later_reads a (Some b) = raised_reads a b

later_first : (a : ℤ) (o : Option ℤ) → a ≤ℤ later_of a o
later_first a None = at_most_refl a
later_first a (Some b) = raised_first a b

later_last : (a : ℤ) (o : Option ℤ) → IsNoLater (later_of a o) o
later_last a None = tt
later_last a (Some b) = raised_last a b

no_later : (c d : ℤ) → c ≤ℤ d → (o : Option ℤ) → IsNoLater c o → IsNoLater d o
no_later c d h None k = tt
no_later c d h (Some v) k = at_most_trans v c d k h

-- ---- events

abbrev Shows : ℤ → Event → Type 0
Shows c e = IsNoLater c (shown_by e.kind)

-- what is no later than a clock is no later than a greater one
pub raised_shows : (c d : ℤ) → c ≤ℤ d → (es : List Event) → ShowNoLater c es → ShowNoLater d es
raised_shows c d h [] k = All-nil (Shows d)
raised_shows c d h (e ∷ es) k = All-cons (Shows d) e es (no_later c d h (shown_by e.kind) (All-head (Shows c) e es k)) (raised_shows c d h es (All-tail (Shows c) e es k))

-- the greatest clock is no less than the first one, and no event shows a greater one
pub record Bounds (c : ℤ) (es : List Event) (d : ℤ) : Type 0 where
  pub first : c ≤ℤ d
  pub shown : ShowNoLater d es

greatest_bounds : (c : ℤ) (es : List Event) → Bounds c es (greatest_clock c es)
greatest_bounds c [] = record { first = at_most_refl c; shown = All-nil (Shows c) }
greatest_bounds c (e ∷ es) =
    let next : ℤ = later_clock c e.kind in
    let rest = greatest_bounds next es in
    let d : ℤ = greatest_clock next es in
    record {
      first = at_most_trans c next d (later_first c (shown_by e.kind)) rest.first;
      shown = All-cons (Shows d) e es (no_later next d rest.first (shown_by e.kind) (later_last c (shown_by e.kind))) rest.shown;
    }

pub greatest_reads : (a : ℕ) (es : List Event) → (reads : ℕ) × (greatest_clock (pos a) es ≡ pos reads)
greatest_reads a [] = (a, refl)
greatest_reads a (e ∷ es) =
    let h = later_reads a (shown_by e.kind) in
    subst (λ (c : ℤ). (reads : ℕ) × (greatest_clock c es ≡ pos reads)) (sym h.1) (greatest_reads h.0 es)

-- ---- values

pub after_bounds : (c : ℤ) (vs : List Value) → Bounds c (trace_of vs) (clock_after c vs)
after_bounds c [] = record { first = at_most_refl c; shown = All-nil (Shows c) }
after_bounds c (v ∷ vs) =
    let next : ℤ = greatest_clock c (events_of v) in
    let here = greatest_bounds c (events_of v) in
    let rest = after_bounds next vs in
    let d : ℤ = clock_after next vs in
    record {
      first = at_most_trans c next d here.first rest.first;
      shown = All-append (Shows d) (events_of v) (trace_of vs) (raised_shows next d rest.first (events_of v) here.shown) rest.shown;
    }

pub after_reads : (a : ℕ) (vs : List Value) → (reads : ℕ) × (clock_after (pos a) vs ≡ pos reads)
after_reads a [] = (a, refl)
after_reads a (v ∷ vs) =
    let h = greatest_reads a (events_of v) in
    subst (λ (c : ℤ). (reads : ℕ) × (clock_after c vs ≡ pos reads)) (sym h.1) (after_reads h.0 vs)

-- after the values' clocks are noted no event shows a greater one that didn't before, nor does one of the values
pub after_raises : (c : ℤ) (vs : List Value) (es : List Event) → ShowNoLater c es → ShowNoLater (clock_after c vs) es
after_raises c vs es h = raised_shows c (clock_after c vs) (after_bounds c vs).first es h

pub after_shows : (c : ℤ) (vs : List Value) → ShowNoLater (clock_after c vs) (trace_of vs)
after_shows c vs = (after_bounds c vs).shown

-- so it is of the events of one value
pub greatest_raises : (c : ℤ) (more es : List Event) → ShowNoLater c es → ShowNoLater (greatest_clock c more) es
greatest_raises c more es h = raised_shows c (greatest_clock c more) (greatest_bounds c more).first es h

pub greatest_shows : (c : ℤ) (more : List Event) → ShowNoLater (greatest_clock c more) more
greatest_shows c more = (greatest_bounds c more).shown

-- two lists, one behind the other
pub both_show : (c : ℤ) (some more : List Event) → ShowNoLater c some → ShowNoLater c more → ShowNoLater c (some ++ more)
both_show c some more h k = All-append (Shows c) some more h k
