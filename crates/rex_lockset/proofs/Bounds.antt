-- Bounds on steps, counted as far as the check needs them.
use Rattle.std.proofs.Common.{◌≡◌, ℕ, zero, suc, ◌+◌, ◌-◌, ◌*◌, ◌<◌, ◌≤◌, ◌⊎◌, max, List, [], ◌∷◌, length, drop, map, get_or, set, refl, ap, sym, ◌∙◌, arith, inl, inr, length-set}
use Rattle.std.specs.Prelude.{slice_index}
use Rattle.std.proofs.lemmas.List.{drop_more, drop-set}
use Rattle.rex_syntax.specs.declared.line.Line.{Line}
use Rattle.rex_syntax.specs.declared.line.Line.TheVariants.{Else, Busy, EndIf, EndTry, EndRepeat, Repeat, Reply}
use Rattle.rex_syntax.specs.Check.{other_of, bound_of, bounds}
use Rattle.rex_lockset.specs.Bound.{capped}

capped-self : (n : ℕ) → capped (capped n) ≡ capped n
capped-self n = omega arith

capped-branches : (n o : ℕ) → capped (1 + max (capped n) (capped o)) ≡ capped (1 + max n o)
capped-branches n o = omega arith

within : (n : ℕ) → (n ≤ 100001) ⊎ (100001 ≤ n)
within n = grind arith

capped-turns : (t n o : ℕ) → (n ≤ 100001) ⊎ (100001 ≤ n) → capped (1 + t * (capped n + 1) + capped o) ≡ capped (1 + t * (n + 1) + o)
capped-turns zero n o h = omega arith
capped-turns (suc t) n o (inl h) =
    let e : capped n ≡ n = omega arith in
    rw e (omega arith)
capped-turns (suc t) n o (inr h) =
    let e : capped n ≡ 100001 = omega arith in
    rw e (omega arith)

-- the bound of a line, by capped bounds of those after it
pub capped-bound_of : (line : Line) (n o : ℕ) → capped (bound_of line (capped n) (capped o)) ≡ capped (bound_of line n o)
capped-bound_of (Else end) n o = capped-self o
capped-bound_of (Busy end) n o = capped-self o
capped-bound_of EndIf n o = capped-self n
capped-bound_of EndTry n o = capped-self n
capped-bound_of EndRepeat n o = refl
capped-bound_of (Repeat turns after) n o = capped-turns turns n o (within n)
capped-bound_of (Reply value) n o = refl
capped-bound_of _ n o = capped-branches n o

at_capped : (xs : List ℕ) (k : ℕ) → slice_index (map capped xs) k ≡ capped (slice_index xs k)
at_capped [] k = refl
at_capped (x ∷ xs) zero = refl
at_capped (x ∷ xs) (suc k) = at_capped xs k

-- the bounds from a line on are written
pub record HasBounds (lines : List Line) (written : List ℕ) (place : ℕ) : Type 0 where
  pub inside : place ≤ length lines
  pub long : length written ≡ length lines
  pub bounds_are : drop place written ≡ map capped (bounds place (drop place lines))

capped-small : (n : ℕ) → capped n ≤ 100001
capped-small n = omega arith

-- a bound that is written is small
pub written_small : (lines : List Line) (written : List ℕ) (place k : ℕ) → HasBounds lines written place → slice_index (drop place written) k ≤ 100001
written_small lines written place k h =
    let e : slice_index (drop place written) k ≡ capped (slice_index (bounds place (drop place lines)) k) = ap (λ xs. slice_index xs k) h.bounds_are ∙ at_capped _ k in
    rw e (capped-small _)

-- the bounds from a line on, with that line's one written before those after it
bounds-more : (lines : List Line) (written : List ℕ) (place : ℕ) (line : Line) (bound : ℕ) → place < length lines → place < length written → line ≡ get_or lines place line → drop (place + 1) written ≡ map capped (bounds (place + 1) (drop (place + 1) lines)) → bound ≡ capped (bound_of line (slice_index (drop (place + 1) written) 0) (slice_index (drop (place + 1) written) (other_of line place - (place + 1)))) → drop place (set written place bound) ≡ map capped (bounds place (drop place lines))
bounds-more lines written place line bound h k e w b =
    let rest : List ℕ = bounds (place + 1) (drop (place + 1) lines) in
    let next : slice_index (drop (place + 1) written) 0 ≡ capped (slice_index rest 0) = ap (λ xs. slice_index xs 0) w ∙ at_capped rest 0 in
    let other : slice_index (drop (place + 1) written) (other_of line place - (place + 1)) ≡ capped (slice_index rest (other_of line place - (place + 1))) = ap (λ xs. slice_index xs (other_of line place - (place + 1))) w ∙ at_capped rest _ in
    let same : bound ≡ capped (bound_of line (slice_index rest 0) (slice_index rest (other_of line place - (place + 1)))) =
    b ∙ ap (λ n. capped (bound_of line n (slice_index (drop (place + 1) written) (other_of line place - (place + 1))))) next ∙ ap (λ o. capped (bound_of line (capped (slice_index rest 0)) o)) other ∙ capped-bound_of line _ _ in
    let from : drop place lines ≡ line ∷ drop (place + 1) lines = drop_more lines place line h ∙ ap (λ l. l ∷ drop (place + 1) lines) (sym e) in
    drop-set written place bound k ∙ ap (λ xs. bound ∷ xs) w ∙ ap (λ n. n ∷ map capped rest) same ∙ ap (λ ls. map capped (bounds place ls)) (sym from)

-- one line more has its bound written
pub HasBounds-more : (lines : List Line) (written : List ℕ) (place : ℕ) (line : Line) (bound : ℕ) → line ≡ get_or lines place line → HasBounds lines written (place + 1) → bound ≡ capped (bound_of line (slice_index (drop (place + 1) written) 0) (slice_index (drop (place + 1) written) (other_of line place - (place + 1)))) → HasBounds lines (set written place bound) place
HasBounds-more lines written place line bound e h b = record {
  inside = omega (arith, h.inside);
  long = length-set written place bound ∙ h.long;
  bounds_are = bounds-more lines written place line bound (omega (arith, h.inside)) (omega (arith, h.inside, h.long)) e h.bounds_are b;
}
