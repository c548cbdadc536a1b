use Rattle.std.proofs.Common.{◌≡◌, ◌++◌, take, FitsSigned, w64}
use Rattle.std.specs.List.{All, flat_map}
use Rattle.rex_wire.specs.Spelling.{signed}
use Rattle.rex_delta.proofs.write_kinds.values.Given as goal

abbrev pub invariant-loop-value : goal.invariant-loop-value
invariant-loop-value l = record {
  spelled : l.writer ≡ l.initial.writer ++ flat_map signed (take l.value-index l.values);
  typed : All (FitsSigned w64) (take l.value-index l.values);
}
