use Rattle.std.proofs.Common.{◌-◌, ◌≤◌, ℕ}
use Rattle.rex_live.specs.Places.{IsPast}
use Rattle.rex_live.proofs.places.seek_offered.Given as goal

abbrev pub decreases-loop-place : goal.decreases-loop-place
decreases-loop-place l = l.till - l.place

abbrev pub invariant-loop-place : goal.invariant-loop-place
invariant-loop-place l = (l.place ≤ l.till) × ((client : ℕ) → IsPast l.entries l.wanted l.place client)
