use Rattle.std.proofs.Common.{◌≡◌, ◌++◌, take, w32}
use Rattle.std.specs.Int.{to_be_bytes}
use Rattle.std.specs.List.{flat_map}
use Rattle.rex_delta.proofs.write_events.bases.Given as goal

abbrev pub invariant-loop-base : goal.invariant-loop-base
invariant-loop-base l = l.writer ≡ l.initial.writer ++ flat_map (to_be_bytes w32) (take l.base-index l.bases)
