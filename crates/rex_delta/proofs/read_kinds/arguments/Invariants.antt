use Rattle.std.proofs.Common.{◌≡◌, ◌-◌, length}
use Rattle.rex_wire.proofs.Repeated.{with_front}
use Rattle.rex_wire.proofs.Lists.{joined}
use Rattle.rex_delta.specs.Reading.{arguments_at}
use Rattle.rex_delta.proofs.read_kinds.arguments.Given as goal

abbrev pub invariant-loop : goal.invariant-loop
invariant-loop l = record {
  few : length l.arguments ≡ l.counter;
  so_far : with_front joined l.arguments (arguments_at (l.count - l.counter) l.reader) ≡ arguments_at l.count l.fn.reader;
}
