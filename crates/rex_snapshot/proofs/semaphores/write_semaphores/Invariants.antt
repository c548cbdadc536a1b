use Rattle.std.proofs.Common.{◌≡◌, ◌++◌, take}
use Rattle.std.specs.List.{flat_map}
use Rattle.rex_snapshot.specs.Semaphores.{level_bytes}
use Rattle.rex_snapshot.proofs.semaphores.write_semaphores.Given as goal

abbrev pub invariant-loop-level : goal.invariant-loop-level
invariant-loop-level l = l.writer ≡ l.initial.writer ++ flat_map level_bytes (take l.level-index l.levels)
