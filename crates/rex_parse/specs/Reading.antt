-- A whole text: the first bad line with its least code, or what was declared.
use Rattle.std.specs.Prelude.{◌+◌, ◌==◌, ◌||◌, ℕ, not, List, [], ◌∷◌, length, Option, Some, None, Result, Ok, Err, if◌then◌else◌}
use Rattle.std.specs.List.{list_all}
use Rattle.rex_text.specs.Text.{lines_of, words_of, numbered, is_skipped, is_allowed}
use Rattle.rex_parse.specs.Above.{nothing, is_open}
use Rattle.rex_parse.specs.Table.{line_code}
use Rattle.rex_parse.specs.After.{after}
use Rattle.rex_parse.specs.declared.language.Above.{Above}
use Rattle.rex_parse.specs.declared.language.ServiceCode.{ServiceCode}
use Rattle.rex_parse.specs.declared.language.ServiceCode.TheVariants.{BadByte, Unended}

-- the least code that fits a line as it stands
abbrev pub raw_code : Above → List ℕ → Option ServiceCode
raw_code a line =
    if not (list_all is_allowed line) then Some BadByte
    else if is_skipped (words_of line) then None
    else line_code a (words_of line)

-- what is declared after a line as it stands
abbrev pub raw_after : Above → ℕ → List ℕ → Above
raw_after a number line = if is_skipped (words_of line) then a else after a number (words_of line)

-- the text ends in a handler, or has none
abbrev pub end_code : Above → Option ServiceCode
end_code a = if is_open a || length a.handlers == 0 then Some Unended else None

-- a refusal of a line where a code fits it, and else what comes next
abbrev pub or_next : Option ServiceCode → ℕ → Result Above (ℕ × ServiceCode) → Result Above (ℕ × ServiceCode)
or_next (Some c) number next = Err (number, c)
or_next None number next = next

-- the answer to numbered lines, after these declarations, where the line after the last has the number `next`
unfoldable pub answer_from : Above → ℕ → List (ℕ × List ℕ) → Result Above (ℕ × ServiceCode)
answer_from a next [] = or_next (end_code a) next (Ok a)
answer_from a next (line ∷ rest) = or_next (raw_code a line.1) line.0 (answer_from (raw_after a line.0 line.1) (line.0 + 1) rest)

-- the answer to a text
abbrev pub answer_of : List ℕ → Result Above (ℕ × ServiceCode)
answer_of bytes = answer_from nothing 1 (numbered 1 (lines_of bytes))
