-- Words and their numbers.
use Rattle.std.specs.Prelude.{ℕ, ◌+◌, List, [], ◌∷◌, ◌++◌, Option, option_map, position, if◌then◌else◌}
use Rattle.std.specs.List.{list_any}
use Rattle.std.specs.Str.{bytes_eq}

-- the number of a word, from 1, where it is one of these
abbrev pub number_of : List (List ℕ) → List ℕ → Option ℕ
number_of words word = option_map (λ place. place + 1) (position (λ w. bytes_eq w word) words)

-- the words with one more, which keeps its place where it is one of them
abbrev pub with_word : List (List ℕ) → List ℕ → List (List ℕ)
with_word words word = if list_any (λ w. bytes_eq w word) words then words else words ++ word ∷ []
