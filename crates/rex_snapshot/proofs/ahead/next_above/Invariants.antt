use Rattle.std.proofs.Common.{◌≡◌, false, take}
use Rattle.std.specs.List.{list_any}
use Rattle.rex_snapshot.specs.Allowed.{is_skipped}
use Rattle.rex_snapshot.proofs.ahead.next_above.Given as goal

-- none of the lanes before this one has a client between
abbrev pub invariant-loop-seat : goal.invariant-loop-seat
invariant-loop-seat l = list_any (λ s. is_skipped l.above l.next s.lane.frame) (take l.seat-index l.seats) ≡ false
