use Rattle.std.proofs.Common.{◌≡◌, ◌-◌, length}
use Rattle.rex_wire.specs.Reading.{list_at}
use Rattle.rex_snapshot.specs.Reading.{with_last, seat_at, seats_at}
use Rattle.rex_snapshot.proofs.Repeated.{with_front}
use Rattle.rex_snapshot.proofs.read_lanes.seats.Given as goal

abbrev pub invariant-loop : goal.invariant-loop
invariant-loop l = record {
  long : length l.seats ≡ l.counter;
  so_far : with_front l.seats (list_at (seat_at l.svc) with_last (l.count - l.counter) l.seats l.reader) ≡ seats_at l.svc l.count l.fn.reader;
}
