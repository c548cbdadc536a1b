-- The lines of a scenario as words.
use Rattle.std.proofs.Common.{◌≡◌, ℕ, List, [], ◌∷◌, ◌++◌, map, refl, ap, ◌∙◌, append_assoc}
use Rattle.std.specs.Prelude.{codes}
use Rattle.std.specs.Fmt.{decimal}
use Rattle.rex_gen.specs.Commands.{command, request}
use Rattle.rex_soak.proofs.Lines.{spaced}

-- a command is its word and its numbers
pub command_is : (w : List ℕ) (ns : List ℕ) → spaced (w ∷ map decimal ns) ++ 10 ∷ [] ≡ command w ns
command_is w [] = refl
command_is w (n ∷ ns) = append_assoc w (32 ∷ spaced (decimal n ∷ map decimal ns)) (10 ∷ []) ∙ ap (λ x. w ++ 32 ∷ x) (command_is (decimal n) ns)

-- the words of a request
abbrev pub request_words : ℕ → ℕ → ℕ → List (List ℕ)
request_words client sequence amount = decimal client ∷ decimal sequence ∷ codes "add" ∷ decimal amount ∷ []

pub request_is : (client sequence amount : ℕ) → spaced (request_words client sequence amount) ++ 10 ∷ [] ≡ request client sequence amount
request_is client sequence amount =
    append_assoc (decimal client) (32 ∷ (decimal sequence ++ 32 ∷ spaced (codes "add" ∷ decimal amount ∷ []))) (10 ∷ [])
    ∙ ap (λ x. decimal client ++ 32 ∷ x) (append_assoc (decimal sequence) (32 ∷ spaced (codes "add" ∷ decimal amount ∷ [])) (10 ∷ []))
