-- What an iterator over a text has left.
use Rattle.std.specs.Prelude.{◌+◌, ◌<◌, ℕ, List, length}
use Rattle.rex_text.specs.Text.{Word, lines_of, numbered, word_lines, words_of}
use Rattle.rex_text.specs.declared.iterators.Lines.{Lines}
use Rattle.rex_text.specs.declared.iterators.RawLines.{RawLines}
use Rattle.rex_text.specs.declared.iterators.Words.{Words}

-- The lines to come, with their numbers.
abbrev pub lines_left : RawLines → List (ℕ × List ℕ)
lines_left state = numbered (state.number + 1) (lines_of state.rest.now)

-- The words to come.
abbrev pub words_left : Words → List Word
words_left state = words_of state.rest.now

-- The lines to come that are not skipped, as words, with their numbers.
abbrev pub word_lines_left : Lines → List (ℕ × List Word)
word_lines_left state = word_lines (lines_left state.raw)

-- The numbers of the lines to come stay below a bound.
abbrev pub starts_below : ℕ → RawLines → Type 0
starts_below bound state = state.number + length state.rest.now + 1 < bound

-- The numbers of the lines to come, skipped or not, stay below a bound.
abbrev pub word_lines_below : ℕ → Lines → Type 0
word_lines_below bound state = starts_below bound state.raw
