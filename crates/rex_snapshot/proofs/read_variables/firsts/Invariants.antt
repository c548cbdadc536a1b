use Rattle.std.proofs.Common.{◌≡◌, take, FitsSigned, w64}
use Rattle.std.specs.Prelude.{map}
use Rattle.std.specs.List.{All}
use Rattle.rex_state.specs.Start.{first_of}
use Rattle.rex_snapshot.proofs.read_variables.firsts.Given as goal

abbrev pub invariant-loop-variable : goal.invariant-loop-variable
invariant-loop-variable l = record {
  so_far : l.firsts.items ≡ map first_of (take l.variable-index l.svc.variables);
  typed : All (FitsSigned w64) l.firsts.items;
}
