use Rattle.std.proofs.Common.{◌≡◌, drop, length, FitsSigned, w64}
use Rattle.std.specs.List.{All}
use Rattle.rex_snapshot.specs.Changes.{firsts, changed}
use Rattle.rex_snapshot.proofs.read_variables.with_changes.Given as goal

abbrev pub invariant-loop-change : goal.invariant-loop-change
invariant-loop-change l = record {
  long : length l.values.items ≡ length l.svc.variables;
  so_far : changed l.values.items (drop l.change-index l.changes) ≡ changed (firsts l.svc) l.changes;
  typed : All (FitsSigned w64) l.values.items;
}
