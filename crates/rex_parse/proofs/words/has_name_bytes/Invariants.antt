use Rattle.std.proofs.Common.{◌≡◌, ◌&&◌, not, drop}
use Rattle.std.specs.List.{list_all}
use Rattle.rex_parse.specs.Words.{is_name_byte}
use Rattle.rex_parse.proofs.words.has_name_bytes.Given as goal

abbrev pub invariant-loop-byte : goal.invariant-loop-byte
invariant-loop-byte l = (not l.has_other && list_all is_name_byte (drop l.byte-index l.word)) ≡ list_all is_name_byte l.word
