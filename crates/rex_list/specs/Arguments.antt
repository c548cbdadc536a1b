-- A list of at most so many numbers as a request has arguments, kept in an array of as many.
use Rattle.std.specs.Prelude.{◌≡◌, ℕ, ℤ, pos, List, length, take, drop, replicate, ◌-◌, ◌≤◌}
use Rattle.rex_list.specs.declared.arguments.TheConstants.{ARGUMENTS}

-- the first numbers of the array
abbrev pub arguments_view : List ℤ → ℕ → List ℤ
arguments_view values count = take count values

-- no more than there may be, and 0 past the last one
pub record IsArguments (values : List ℤ) (count : ℕ) : Type 0 where
  pub few : count ≤ ARGUMENTS
  pub long : length values ≡ ARGUMENTS
  pub rest : drop count values ≡ replicate (ARGUMENTS - count) (pos 0)
