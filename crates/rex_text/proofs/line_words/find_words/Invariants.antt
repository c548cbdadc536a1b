use Rattle.std.proofs.Common.{◌≡◌, ℕ, ◌<◌, ◌≤◌, ◌++◌, false, drop, get_or, map}
use Rattle.rex_text.specs.Text.{is_blank, words_of}
use Rattle.rex_text.proofs.line_words.find_words.Given as goal

-- The words found, with those behind `start`, are the words of the line, and no blank stands from `start` on.
abbrev pub invariant-loop-at : goal.invariant-loop-at
invariant-loop-at l = record {
  words : map (λ word. word.now) l.found.items ++ words_of (drop l.start l.line) ≡ words_of l.line;
  order : l.start ≤ l.at;
  plain : (k : ℕ) → l.start ≤ k → k < l.at → is_blank (get_or l.line k 0) ≡ false;
}
