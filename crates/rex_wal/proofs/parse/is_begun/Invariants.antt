use Rattle.std.proofs.Common.{◌≡◌, ◌⊎◌, ◌<◌, ℕ}
use Rattle.rex_file.specs.Mixing.{byte_at}
use Rattle.rex_wal.specs.Journal.{head}
use Rattle.rex_wal.proofs.parse.is_begun.Given as goal

-- each byte before this one is 0, or the one that the head has there
abbrev pub invariant-loop-i : goal.invariant-loop-i
invariant-loop-i l = record { begun : (k : ℕ) → k < l.i → (byte_at l.bytes k ≡ 0) ⊎ (byte_at l.bytes k ≡ byte_at head k) }
