-- Rows of summaries, found by the numbers of places.
use Rattle.std.specs.Prelude.{◌≡◌, ℕ, zero, suc, ◌<◌, ◌≤◌, List, Option, Some, None, map, slice_index_or}
use Rattle.rex_reduce.specs.declared.summary.Summary.{Summary}
use Rattle.rex_reduce.specs.Summaries.{nothing, alone}

-- what a row keeps: a summary, or with a lane the clock of an event of that lane alone
abbrev pub kept_of : Summary → Option ℕ → Summary
kept_of kept None = kept
kept_of kept (Some lane) = alone kept.clocks lane

-- the summary of the row of a number, from 1; 0 is no row's
abbrev pub numbered : List Summary → ℕ → Summary
numbered rows zero = nothing
numbered rows (suc index) = slice_index_or rows index nothing

-- the summary of a place, by its number
abbrev pub row_at : List Summary → List ℕ → ℕ → Summary
row_at rows numbers place = numbered rows (slice_index_or numbers place 0)

-- the summaries of all places, by their numbers
abbrev pub summaries : List Summary → List ℕ → List Summary
summaries rows numbers = map (numbered rows) numbers

-- each number is 0 or that of one of so many rows, and no two places have one row
pub record AreApart (rows : ℕ) (numbers : List ℕ) : Type 0 where
  pub within : (place : ℕ) → slice_index_or numbers place 0 ≤ rows
  pub apart : (place other : ℕ) → 0 < slice_index_or numbers place 0 → slice_index_or numbers place 0 ≡ slice_index_or numbers other 0 → place ≡ other
