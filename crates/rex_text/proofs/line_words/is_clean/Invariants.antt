use Rattle.std.proofs.Common.{◌≡◌, ◌&&◌, not, drop}
use Rattle.std.specs.List.{list_all}
use Rattle.rex_text.specs.Text.{is_allowed}
use Rattle.rex_text.proofs.line_words.is_clean.Given as goal

abbrev pub invariant-loop-byte : goal.invariant-loop-byte
invariant-loop-byte l = (not l.has_other && list_all is_allowed (drop l.byte-index l.line)) ≡ list_all is_allowed l.line
