use Rattle.std.proofs.Common.{◌≡◌, ◌-◌, ◌≤◌, length}
use Rattle.std.specs.List.{All}
use Rattle.rex_wire.proofs.Repeated.{with_front}
use Rattle.rex_wire.proofs.Lists.{joined}
use Rattle.rex_delta.specs.Spelling.{greatest_base}
use Rattle.rex_delta.specs.Reading.{bases_at}
use Rattle.rex_delta.proofs.pass_events.few_bases.Given as goal

abbrev pub invariant-loop : goal.invariant-loop
invariant-loop l = record {
  long : length l.bases.items ≡ l.counter;
  small : All (λ base. base ≤ greatest_base) l.bases.items;
  so_far : with_front joined l.bases.items (bases_at (l.lanes - l.counter) l.reader) ≡ bases_at l.lanes l.fn.reader;
}
