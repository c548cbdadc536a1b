use Rattle.std.proofs.Common.{◌≡◌, take}
use Rattle.rex_wal.specs.Journal.{marks}
use Rattle.rex_wal.proofs.spell.spell_any.Given as goal

-- the bytes that were taken are spelled
abbrev pub invariant-loop-byte : goal.invariant-loop-byte
invariant-loop-byte l = record { spelled : l.spelled.items ≡ marks (take l.byte-index l.bytes) }
