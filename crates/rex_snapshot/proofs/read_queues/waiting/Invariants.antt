use Rattle.std.proofs.Common.{◌≡◌, ◌-◌, [], length}
use Rattle.rex_wire.specs.Reading.{list_at}
use Rattle.rex_snapshot.specs.Reading.{with_last, waiter_at}
use Rattle.rex_snapshot.proofs.Repeated.{with_front}
use Rattle.rex_snapshot.proofs.read_queues.waiting.Given as goal

abbrev pub invariant-loop : goal.invariant-loop
invariant-loop l = record {
  few : length l.lanes.items ≡ l.counter;
  so_far : with_front l.lanes.items (list_at (waiter_at l.seats l.condition) with_last (l.count - l.counter) l.lanes.items l.reader) ≡ list_at (waiter_at l.seats l.condition) with_last l.count [] l.fn.reader;
}
