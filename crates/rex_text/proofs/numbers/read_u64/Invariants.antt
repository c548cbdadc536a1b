use Rattle.std.proofs.Common.{◌<◌, ◌^◌}
use Rattle.rex_text.proofs.Spellings.{HasRead}
use Rattle.rex_text.proofs.numbers.read_u64.Given as goal

abbrev pub invariant-loop-byte : goal.invariant-loop-byte
invariant-loop-byte l = HasRead l.word l.byte-index l.number × (l.number < 2 ^ 64)
