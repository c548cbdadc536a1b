-- What lanes can't record by lock words: readers-writer locks, conditions and semaphores.
use Rattle.std.specs.Prelude.{◌≡◌, ◌||◌, ℕ, Bool, false, List, [], ◌∷◌, Option, Some, None, codes, find, option_map, if◌then◌else◌}
use Rattle.std.specs.List.{All}
use Rattle.std.specs.Str.{bytes_eq}
use Rattle.rex_text.specs.Text.{Word, lines_of, words_of, numbered}
use Rattle.rex_syntax.specs.declared.service.Declarations.{Declarations}
use Rattle.rex_syntax.specs.declared.service.Lock.{Lock}
use Rattle.rex_syntax.specs.declared.service.LockKind.TheVariants.{Plain}

-- a first word that declares one
abbrev pub is_beyond : Word → Bool
is_beyond w = bytes_eq w (codes "rwlock") || (bytes_eq w (codes "cond") || bytes_eq w (codes "sem"))

-- a line that declares one
abbrev pub declares_beyond : List Word → Bool
declares_beyond [] = false
declares_beyond (w ∷ ws) = is_beyond w

-- the number of the first line of a text that declares one
abbrev pub beyond_words : List ℕ → Option ℕ
beyond_words bytes = option_map (λ line. line.0) (find (λ line. declares_beyond (words_of line.1)) (numbered 1 (lines_of bytes)))

-- the number of the first such line so far, after one line more
abbrev pub beyond_after : Option ℕ → ℕ → List Word → Option ℕ
beyond_after (Some line) number ws = Some line
beyond_after None number ws = if declares_beyond ws then Some number else None

-- a service of plain locks and variables: it has none of these
pub record IsPlain (service : Declarations) : Type 0 where
  pub locks : All (λ (lock : Lock). lock.kind ≡ Plain) service.locks
  pub conditions : service.conditions ≡ []
  pub semaphores : service.semaphores ≡ []
