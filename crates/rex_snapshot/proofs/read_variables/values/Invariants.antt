use Rattle.std.proofs.Common.{◌≡◌, ◌-◌, FitsSigned, w64}
use Rattle.std.specs.List.{All}
use Rattle.rex_wire.specs.Reading.{list_at}
use Rattle.rex_snapshot.specs.Reading.{alike, value_at, values_at}
use Rattle.rex_snapshot.proofs.Repeated.{with_front}
use Rattle.rex_snapshot.proofs.read_variables.values.Given as goal

abbrev pub invariant-loop : goal.invariant-loop
invariant-loop l = record {
  so_far : with_front l.values (list_at value_at alike (l.count - l.counter) tt l.reader) ≡ values_at l.count l.fn.reader;
  typed : All (FitsSigned w64) l.values;
}
