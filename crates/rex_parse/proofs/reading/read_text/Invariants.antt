use Rattle.std.proofs.Common.{◌≡◌, ◌^◌, length}
use Rattle.rex_text.specs.Left.{lines_left, starts_below}
use Rattle.rex_parse.specs.Good.{IsGood}
use Rattle.rex_parse.specs.Reading.{answer_from, answer_of}
use Rattle.rex_parse.proofs.reading.read_text.Given as goal

abbrev pub invariant-loop-next : goal.invariant-loop-next
invariant-loop-next l = record {
  same : answer_from l.parser l.next (lines_left l.lines) ≡ answer_of l.bytes;
  can : starts_below (2 ^ 32) l.lines;
  good : IsGood l.parser;
}

abbrev pub decreases-loop-next : goal.decreases-loop-next
decreases-loop-next l = length (lines_left l.lines)
