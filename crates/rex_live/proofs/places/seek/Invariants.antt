use Rattle.std.proofs.Common.{◌≡◌, ◌-◌, ◌<◌, ◌≤◌, ℕ, false, length}
use Rattle.rex_live.specs.Places.{request_at, IsOf, is_next}
use Rattle.rex_live.proofs.places.seek.Given as goal

abbrev pub decreases-loop-place : goal.decreases-loop-place
decreases-loop-place l = length l.requests - l.place

abbrev pub invariant-loop-place : goal.invariant-loop-place
invariant-loop-place l =
    IsOf l.requests l.client l.place
    × ((j : ℕ) → l.from ≤ j → j < l.place → (request_at l.requests j).client ≡ l.client → is_next l.service l.last (request_at l.requests j) ≡ false)
