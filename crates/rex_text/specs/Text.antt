-- The lines and words of a text.
use Rattle.std.specs.Prelude.{◌+◌, ◌-◌, ◌==◌, ◌&&◌, ◌||◌, ℕ, Bool, true, not, List, [], ◌∷◌}
use Rattle.std.specs.Prelude.{drop, if◌then◌else◌, length, map, nat_le, nat_lt, slice_index, take}
use Rattle.std.specs.List.{filter, slice_split}
use Rattle.std.specs.Str.Lines.{lines}

-- A word is its bytes.
abbrev pub Word : Type 0
Word = List ℕ

-- Each LF ends a line, a CR right before it is dropped, and bytes behind the last LF are a line.
abbrev pub lines_of : List ℕ → List (List ℕ)
lines_of bytes = lines bytes

-- Spaces and tabs are blanks.
abbrev pub is_blank : ℕ → Bool
is_blank byte = byte == 32 || byte == 9

-- Blanks separate words.
abbrev pub words_of : List ℕ → List Word
words_of line = filter (λ word. not (length word == 0)) (slice_split is_blank line)

-- The bytes from one place up to another are a word, if there are any.
abbrev pub word_between : List ℕ → ℕ → ℕ → List Word
word_between line start end = if nat_lt start end then take (end - start) (drop start line) ∷ [] else []

-- Each element has its number, of which the first is n.
abbrev pub numbered : {A : Type 0} → ℕ → List A → List (ℕ × A)
numbered n [] = []
numbered n (x ∷ xs) = (n, x) ∷ numbered (n + 1) xs

-- A line is skipped if it has no words, or if the first begins with '#'.
abbrev pub is_skipped : List Word → Bool
is_skipped [] = true
is_skipped (word ∷ more) = slice_index word 0 == 35

-- Those of some numbered lines that are not skipped, as words.
abbrev pub word_lines : List (ℕ × List ℕ) → List (ℕ × List Word)
word_lines raw =
    filter (λ line. not (is_skipped line.1)) (map (λ line. (line.0, words_of line.1)) raw)

-- The lines of a text that are not skipped, as words, each with its number among all lines.
abbrev pub word_lines_of : List ℕ → List (ℕ × List Word)
word_lines_of bytes = word_lines (numbered 1 (lines_of bytes))

-- A byte may stand in a line if it is a visible one of ASCII, a space or a tab.
abbrev pub is_allowed : ℕ → Bool
is_allowed byte = (nat_le 32 byte && nat_le byte 126) || byte == 9
