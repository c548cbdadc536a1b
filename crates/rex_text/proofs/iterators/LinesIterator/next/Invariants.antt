use Rattle.std.proofs.Common.{◌≡◌, ◌^◌, ◌≤◌, length}
use Rattle.rex_text.specs.Left.{word_lines_below, word_lines_left}
use Rattle.rex_text.proofs.iterators.LinesIterator.next.Given as goal

-- Only skipped lines were passed.
abbrev pub invariant-loop-number : goal.invariant-loop-number
invariant-loop-number l = record {
  can : word_lines_below (2 ^ 32) l.self;
  left : word_lines_left l.self ≡ word_lines_left l.initial.self;
  fewer : length l.self.raw.rest.now ≤ length l.initial.self.raw.rest.now;
}

abbrev pub decreases-loop-number : goal.decreases-loop-number
decreases-loop-number l = length l.self.raw.rest.now
