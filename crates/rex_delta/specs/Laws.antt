-- What holds of all spellings.
use Rattle.std.specs.Prelude.{◌≡◌, ℕ, List, [], ◌++◌}
use Rattle.rex_event.specs.declared.delta.Delta.{Delta}
use Rattle.rex_delta.specs.Spelling.{delta_bytes, HasSpelling}

-- no spelling begins another: where one delta's bytes begin another's, they are one delta and nothing follows
abbrev pub NoSpellingBeginsAnother : Type 0
NoSpellingBeginsAnother = (d e : Delta) (rest : List ℕ) → HasSpelling d → HasSpelling e → delta_bytes d ≡ delta_bytes e ++ rest → (d ≡ e) × (rest ≡ [])
