-- The bound on steps from a line on, by those from the lines to which it leads.
use Rattle.std.proofs.Common.{◌≡◌, ℕ, zero, suc, ◌+◌, ◌-◌, ◌<◌, List, [], ◌∷◌, ◌∙◌, arith, add-one}
use Rattle.std.specs.Prelude.{Some, slice_get, slice_index}
use Rattle.rex_syntax.specs.declared.line.Line.{Line}
use Rattle.rex_syntax.specs.Check.{other_of, bound_of, bounds}
use Rattle.rex_words.specs.Budget.{bound}

-- a place past the first one, in a list with one more element before it
after_first : (x : ℕ) (xs : List ℕ) (k t : ℕ) → k < t → slice_index (x ∷ xs) (t - k) ≡ slice_index xs (t - (k + 1))
after_first x xs k t h = rw (let e : t - k ≡ suc (t - (k + 1)) = omega arith in e)

-- the bounds after one more element before them
under : (line : Line) (x : ℕ) (xs : List ℕ) (k j t : ℕ) → k < t → bound_of line (slice_index xs (j + 1)) (slice_index xs (t - (k + 1))) ≡ bound_of line (slice_index (x ∷ xs) (suc j + 1)) (slice_index (x ∷ xs) (t - k))
under line x xs k j t h =
    let a : slice_index (x ∷ xs) (suc j + 1) ≡ slice_index xs (j + 1) = rw (add-one, add-one) in
    let b : slice_index (x ∷ xs) (t - k) ≡ slice_index xs (t - (k + 1)) = after_first x xs k t h in
    cc

under_first : (l line : Line) (x : ℕ) (xs : List ℕ) (k : ℕ) → l ≡ line → k < other_of line k → bound_of l (slice_index xs 0) (slice_index xs (other_of l k - (k + 1))) ≡ bound_of line (slice_index (x ∷ xs) 1) (slice_index (x ∷ xs) (other_of line k - k))
under_first l line x xs k p h =
    let b : slice_index (x ∷ xs) (other_of line k - k) ≡ slice_index xs (other_of line k - (k + 1)) = after_first x xs k (other_of line k) h in
    cc

-- the bound from a line on, by the bounds from the next line and from the other one
pub bounds-at : (lines : List Line) (k j : ℕ) (line : Line) → slice_get lines j ≡ Some line → k + j < other_of line (k + j) → slice_index (bounds k lines) j ≡ bound_of line (slice_index (bounds k lines) (j + 1)) (slice_index (bounds k lines) (other_of line (k + j) - k))
bounds-at [] k j line e h = absurd (cc)
bounds-at (l ∷ ls) k zero line e h =
    let p : l ≡ line = cc in
    let z : k + 0 ≡ k = omega arith in
    let h' : k < other_of line k = rw z at h in
    rw z (under_first l line _ (bounds (k + 1) ls) k p h')
bounds-at (l ∷ ls) k (suc j) line e h =
    let z : k + suc j ≡ (k + 1) + j = omega arith in
    let h' : (k + 1) + j < other_of line ((k + 1) + j) = rw z at h in
    rw z (bounds-at ls (k + 1) j line e h' ∙ under line _ (bounds (k + 1) ls) k j _ (let q : k < other_of line ((k + 1) + j) = omega arith in q))

pub bound-at : (lines : List Line) (place : ℕ) (line : Line) → slice_get lines place ≡ Some line → place < other_of line place → bound lines place ≡ bound_of line (bound lines (place + 1)) (bound lines (other_of line place))
bound-at lines place line e h =
    let z : 0 + place ≡ place = omega arith in
    let h' : 0 + place < other_of line (0 + place) = rw z h in
    let s : other_of line place - 0 ≡ other_of line place = omega arith in
    (rw s at (rw z at (bounds-at lines 0 place line e h')))
