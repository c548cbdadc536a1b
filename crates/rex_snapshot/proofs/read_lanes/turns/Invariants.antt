use Rattle.std.proofs.Common.{◌≡◌, ◌-◌, length}
use Rattle.rex_wire.specs.Reading.{list_at}
use Rattle.rex_snapshot.specs.Reading.{counted, turn_of_at, turns_at}
use Rattle.rex_snapshot.proofs.Repeated.{with_front}
use Rattle.rex_snapshot.proofs.read_lanes.turns.Given as goal

abbrev pub invariant-loop-body : goal.invariant-loop-body
invariant-loop-body l = record {
  few : length l.turns.items ≡ l.body-index;
  so_far : with_front l.turns.items (list_at (turn_of_at l.lines l.bodies) counted (length l.bodies - l.body-index) l.body-index l.reader) ≡ turns_at l.lines l.bodies l.fn.reader;
}
