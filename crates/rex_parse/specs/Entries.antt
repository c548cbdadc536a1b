-- Declared names, with what they stand for.
use Rattle.std.specs.Prelude.{◌≡◌, List, [], ◌∷◌, length, true}
use Rattle.std.specs.List.{All}
use Rattle.rex_text.specs.Text.{Word}
use Rattle.rex_parse.specs.Words.{is_name}
use Rattle.rex_parse.specs.declared.language.Entry.{Entry}
use Rattle.rex_parse.specs.declared.language.Meaning.{Meaning}

-- words and what they stand for, place by place
abbrev pub entries_of : List Word → List Meaning → List Entry
entries_of [] meanings = []
entries_of (w ∷ ws) [] = []
entries_of (w ∷ ws) (m ∷ meanings) = (record { name = w; meaning = m }) ∷ entries_of ws meanings

-- each word is a name, and stands for one thing
pub record AreNamed (ws : List Word) (ms : List Meaning) : Type 0 where
  pub paired : length ws ≡ length ms
  pub names : All (λ w. is_name w ≡ true) ws
