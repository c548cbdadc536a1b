use Rattle.std.proofs.Common.{◌≡◌, ◌++◌, length}
use Rattle.rex_wal.specs.Journal.{IsRecord, marks}
use Rattle.rex_wal.proofs.parse.first_record.Given as goal

-- bytes of a record were taken, and are spelled before what is left
abbrev pub invariant-loop-byte : goal.invariant-loop-byte
invariant-loop-byte l = record {
  split : l.bytes ≡ marks l.record.items ++ l.rest;
  each : IsRecord l.record.items;
}

abbrev pub decreases-loop-byte : goal.decreases-loop-byte
decreases-loop-byte l = length l.rest
