use Rattle.std.proofs.Common.{◌≡◌, ◌<◌, ◌+◌, ℕ}
use Rattle.rex_file.specs.Mixing.{byte_at}
use Rattle.rex_wal.proofs.parse.has_later.Given as goal

-- of the bytes before this one only 0 stands behind an end mark
abbrev pub invariant-loop-i : goal.invariant-loop-i
invariant-loop-i l = record { later : (k : ℕ) → k + 2 < l.i → byte_at l.bytes k ≡ 255 → byte_at l.bytes (k + 1) ≡ 1 → byte_at l.bytes (k + 2) ≡ 0 }
