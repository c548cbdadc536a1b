use Rattle.std.proofs.Common.{◌≡◌, ◌^◌, length}
use Rattle.rex_text.specs.Left.{lines_left, starts_below}
use Rattle.rex_text.specs.Text.{lines_of, numbered}
use Rattle.rex_scenario.specs.Keeps.{SectionsFit}
use Rattle.rex_scenario.specs.Reading.{answer_from, start}
use Rattle.rex_scenario.proofs.reading.read_text.Given as goal

abbrev pub invariant-loop-next : goal.invariant-loop-next
invariant-loop-next l = record {
  same : answer_from l.reader l.next (lines_left l.lines) ≡ answer_from (start l._scheduled) 1 (numbered 1 (lines_of l.bytes));
  can : starts_below (2 ^ 32) l.lines;
  fit : SectionsFit l.reader;
  mode : l.reader.scheduled ≡ l._scheduled;
}

abbrev pub decreases-loop-next : goal.decreases-loop-next
decreases-loop-next l = length (lines_left l.lines)
