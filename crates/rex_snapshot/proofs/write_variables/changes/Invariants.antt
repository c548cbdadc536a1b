use Rattle.std.proofs.Common.{◌≡◌, ◌++◌, take, drop, FitsSigned, w64}
use Rattle.std.specs.List.{All, flat_map}
use Rattle.rex_snapshot.specs.Changes.{firsts, changes_from, changes_of}
use Rattle.rex_snapshot.specs.Spelling.{change_bytes}
use Rattle.rex_snapshot.proofs.write_variables.changes.Given as goal

abbrev pub invariant-loop-n : goal.invariant-loop-n
invariant-loop-n l = record {
  spelled : l.writer ++ flat_map change_bytes (changes_from l.n (drop l.n (firsts l.svc)) (drop l.n l.values)) ≡ l.initial.writer ++ flat_map change_bytes (changes_of l.svc l.values);
  typed : All (FitsSigned w64) (take l.n l.values);
}
