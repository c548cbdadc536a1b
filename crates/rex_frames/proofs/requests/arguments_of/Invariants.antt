use Rattle.std.proofs.Common.{◌≡◌, ◌≤◌, [], length}
use Rattle.rex_text.specs.Left.{words_left}
use Rattle.rex_frames.proofs.Collecting.{collected}
use Rattle.rex_frames.proofs.requests.arguments_of.Given as goal

-- what was collected and what is left spell the arguments
abbrev pub invariant-loop-word : goal.invariant-loop-word
invariant-loop-word l = record {
  few : length l.arguments ≤ 4;
  same : collected l.arguments (words_left l.word-iterator) ≡ collected [] (words_left l.fn.words);
}
