-- The grammar in words of its own: what the lines above declare, and the first line that a code fits.
use Rattle.std.specs.Prelude.{◌≡◌, ◌+◌, ◌<◌, ◌⊎◌, ℕ, List, [], ◌∷◌, length, take, slice_index_or, Option, Some, None, Result, Ok, Err}
use Rattle.rex_text.specs.Text.{lines_of}
use Rattle.rex_syntax.specs.Typed.{ServiceIsTyped}
use Rattle.rex_parse.specs.Above.{nothing}
use Rattle.rex_parse.specs.After.{service_of}
use Rattle.rex_parse.specs.Reading.{raw_code, raw_after, end_code, or_next, answer_of}
use Rattle.rex_parse.specs.declared.language.Above.{Above}
use Rattle.rex_parse.specs.declared.language.ServiceCode.{ServiceCode}

-- what lines declare, one after the other, the first with this number
unfoldable pub above_from : Above → ℕ → List (List ℕ) → Above
above_from a number [] = a
above_from a number (line ∷ rest) = above_from (raw_after a number line) (number + 1) rest

-- the code that fits line i, given what the lines above it declare
abbrev pub code_at : Above → ℕ → List (List ℕ) → ℕ → Option ServiceCode
code_at a number lines i = raw_code (above_from a number (take i lines)) (slice_index_or lines i [])

-- no code fits any of the first n lines
abbrev pub AreGood : Above → ℕ → List (List ℕ) → ℕ → Type 0
AreGood a number lines n = (j : ℕ) → j < n → code_at a number lines j ≡ None

-- a code fits line i, and none fits a line before
pub record IsFirstBad (a : Above) (number : ℕ) (lines : List (List ℕ)) (i : ℕ) (c : ServiceCode) : Type 0 where
  pub within : i < length lines
  pub bad : code_at a number lines i ≡ Some c
  pub good : AreGood a number lines i

-- the answer is the first bad line with its least code, or what the end of a good text says
abbrev pub Says : Above → ℕ → List (List ℕ) → Result Above (ℕ × ServiceCode) → Type 0
Says a number lines answer =
    ((i : ℕ) × (c : ServiceCode) × IsFirstBad a number lines i c × (answer ≡ Err (number + i, c)))
    ⊎ (AreGood a number lines (length lines) × (answer ≡ or_next (end_code (above_from a number lines)) (number + length lines) (Ok (above_from a number lines))))

-- for each text
abbrev pub EachText : Type 0
EachText = (bytes : List ℕ) → Says nothing 1 (lines_of bytes) (answer_of bytes)

-- each number of a service that a text declares is one of 64 bits
abbrev pub ServicesAreTyped : Type 0
ServicesAreTyped = (bytes : List ℕ) (a : Above) → answer_of bytes ≡ Ok a → ServiceIsTyped (service_of a)
