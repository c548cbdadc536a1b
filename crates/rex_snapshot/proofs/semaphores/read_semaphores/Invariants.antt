use Rattle.std.proofs.Common.{◌≡◌, ◌-◌}
use Rattle.rex_wire.specs.Reading.{list_at}
use Rattle.rex_snapshot.specs.Semaphores.{next_level_at, same_way, levels_at}
use Rattle.rex_snapshot.proofs.Repeated.{with_front}
use Rattle.rex_snapshot.proofs.semaphores.read_semaphores.Given as goal

abbrev pub invariant-loop : goal.invariant-loop
invariant-loop l = with_front l.levels (list_at next_level_at same_way (l.count - l.counter) tt l.reader) ≡ levels_at l.count l.fn.reader
