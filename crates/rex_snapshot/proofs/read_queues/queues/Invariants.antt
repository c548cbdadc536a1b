use Rattle.std.proofs.Common.{◌≡◌, ◌-◌}
use Rattle.rex_wire.specs.Reading.{list_at}
use Rattle.rex_snapshot.specs.Reading.{counted, queue_at, queues_at}
use Rattle.rex_snapshot.proofs.Repeated.{with_front}
use Rattle.rex_snapshot.proofs.read_queues.queues.Given as goal

abbrev pub invariant-loop-condition : goal.invariant-loop-condition
invariant-loop-condition l = with_front l.queues (list_at (queue_at l.seats) counted (l.count - l.condition) l.condition l.reader) ≡ queues_at l.seats l.count l.fn.reader
