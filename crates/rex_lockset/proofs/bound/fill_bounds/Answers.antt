use Rattle.std.proofs.Common.{◌≡◌, ◌<◌, ◌+◌, ◌-◌, length, take, drop, ℕ, List, ap, arith, sym, ◌∙◌, subst}
use Rattle.std.specs.Prelude.{slice_index}
use Rattle.std.proofs.lemmas.List.{take_rest}
use Rattle.rex_lockset.proofs.Bounds.{HasBounds, HasBounds-more, written_small}
use Rattle.rex_lockset.proofs.bound.fill_bounds.Goals as goal

-- the line before is the one at which the loop is
before : (place : ℕ) → 0 < place → place - 1 + 1 ≡ place
before place h = omega arith

small : (bounds : List ℕ) (result n k : ℕ) → result ≡ slice_index (take (length bounds - n) (drop n bounds)) k → result ≡ slice_index (drop n bounds) k
small bounds result n k e = e ∙ ap (λ xs. slice_index xs k) (take_rest bounds n)

pub line_bound-requires-clause-next : goal.line_bound-requires-clause-next
line_bound-requires-clause-next c =
    let e : c.bound_at-next.result ≡ slice_index (drop (c.loop-place.place - 1 + 1) c.loop-place.bounds) 0 = small c.loop-place.bounds _ _ _ c.bound_at-next.ensures in
    rw (e, before c.loop-place.place c.loop-place-test.true) (written_small c.args.lines.now c.loop-place.bounds c.loop-place.place 0 c.loop-place.invariant)

pub line_bound-requires-clause-other : goal.line_bound-requires-clause-other
line_bound-requires-clause-other c =
    let e : c.bound_at-other.result ≡ slice_index (drop (c.loop-place.place - 1 + 1) c.loop-place.bounds) c.saturating_sub.result = small c.loop-place.bounds _ _ _ c.bound_at-other.ensures in
    rw (e, before c.loop-place.place c.loop-place-test.true) (written_small c.args.lines.now c.loop-place.bounds c.loop-place.place c.saturating_sub.result c.loop-place.invariant)

pub loop-place-preserved : goal.loop-place-preserved
loop-place-preserved c =
    let place : ℕ = c.loop-place.place - 1 in
    let h : HasBounds c.args.lines.now c.loop-place.bounds (place + 1) = let P : ℕ → Type 0 = λ n. HasBounds c.args.lines.now c.loop-place.bounds n in subst P (sym (before c.loop-place.place c.loop-place-test.true)) c.loop-place.invariant in
    let next = small c.loop-place.bounds _ _ _ c.bound_at-next.ensures in
    let other = small c.loop-place.bounds _ _ _ c.bound_at-other.ensures in
    HasBounds-more c.args.lines.now c.loop-place.bounds place c.index-lines-place.result c.line_bound.result c.index-lines-place.is h
    (rw (← next, ← c.other_line.ensures, ← c.saturating_sub.ensures, ← other) c.line_bound.ensures)
