use Rattle.std.proofs.Common.{◌≡◌, ◌++◌, length, take, drop}
use Rattle.rex_wal.specs.Journal.{marks}
use Rattle.rex_wal.proofs.spell.spell_low.Given as goal

-- the bytes before this one are spelled
abbrev pub invariant-loop-i : goal.invariant-loop-i
invariant-loop-i l = record {
  spelled : l.spelled.items ≡ marks (take l.i l.bytes) ++ drop l.i l.bytes;
  long : length l.spelled.items ≡ length l.bytes;
}
