-- Lines of a scenario.
use Rattle.std.specs.Prelude.{ℕ, List, [], ◌∷◌, ◌++◌, codes}
use Rattle.std.specs.Fmt.{decimal}

-- numbers in decimal, each after a space, and the end of the line
abbrev pub numbers_text : List ℕ → List ℕ
numbers_text [] = 10 ∷ []
numbers_text (n ∷ ns) = 32 ∷ (decimal n ++ numbers_text ns)

-- a line: a word and its numbers
abbrev pub command : List ℕ → List ℕ → List ℕ
command word numbers = word ++ numbers_text numbers

-- the line of a client's request to add an amount
abbrev pub request : ℕ → ℕ → ℕ → List ℕ
request client sequence amount = decimal client ++ 32 ∷ (decimal sequence ++ command (codes " add") (amount ∷ []))
