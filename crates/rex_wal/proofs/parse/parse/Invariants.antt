use Rattle.std.proofs.Common.{◌≡◌, ◌++◌, length}
use Rattle.std.specs.Prelude.{All}
use Rattle.rex_wal.specs.Journal.{IsRecord, entries, head}
use Rattle.rex_wal.proofs.parse.parse.Given as goal

-- records were taken, and stand before what is left
abbrev pub invariant-loop-records : goal.invariant-loop-records
invariant-loop-records l = record {
  split : l.bytes ≡ head ++ (entries l.records.items ++ l.rest);
  each : All IsRecord l.records.items;
}

abbrev pub decreases-loop-records : goal.decreases-loop-records
decreases-loop-records l = length l.rest
