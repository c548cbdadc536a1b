use Rattle.rex_lockset.proofs.Bounds.{HasBounds}
use Rattle.rex_lockset.proofs.bound.fill_bounds.Given as goal

abbrev pub invariant-loop-place : goal.invariant-loop-place
invariant-loop-place l = HasBounds l.lines l.bounds l.place

abbrev pub decreases-loop-place : goal.decreases-loop-place
decreases-loop-place l = l.place
