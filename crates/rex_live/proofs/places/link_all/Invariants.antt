use Rattle.std.proofs.Common.{◌≤◌, length}
use Rattle.rex_live.specs.Places.{IsLinkedFrom}
use Rattle.rex_live.proofs.places.link_all.Given as goal

abbrev pub decreases-loop-place : goal.decreases-loop-place
decreases-loop-place l = l.place

abbrev pub invariant-loop-place : goal.invariant-loop-place
invariant-loop-place l = (l.place ≤ length l.requests) × IsLinkedFrom l.requests l.place l.nexts l.firsts
