-- The arguments of a request, collected word by word.
use Rattle.std.proofs.Common.{ℤ, ◌+◌, List, ◌++◌, length, Option, None}
use Rattle.std.specs.Prelude.{nat_le, option_map, if◌then◌else◌}
use Rattle.rex_text.specs.Text.{Word}
use Rattle.rex_frames.specs.Requests.{numbers_of}

-- some numbers, and those that words spell, where each spells one and they are four at most
abbrev pub collected : List ℤ → List Word → Option (List ℤ)
collected before words = if nat_le (length before + length words) 4 then option_map (λ ns. before ++ ns) (numbers_of words) else None
