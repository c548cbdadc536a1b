use Rattle.std.proofs.Common.{◌≡◌, ◌-◌, length}
use Rattle.rex_wire.specs.Reading.{list_at}
use Rattle.rex_snapshot.specs.Reading.{alike, value_at, values_at}
use Rattle.rex_snapshot.proofs.Repeated.{with_front}
use Rattle.rex_snapshot.proofs.read_lanes.locals.Given as goal

abbrev pub invariant-loop : goal.invariant-loop
invariant-loop l = record {
  few : length l.locals.items ≡ l.counter;
  so_far : with_front l.locals.items (list_at value_at alike (l.count - l.counter) tt l.reader) ≡ values_at l.count l.fn.reader;
}
