-- An input that was read of a source.
use Rattle.std.specs.Prelude.{◌≡◌, ◌⊎◌, ℕ, Bool, true, List, length}
use Rattle.std.specs.declared.option.Option.{Option}
use Rattle.std.specs.Io.KnownBytes.{Consumes, IsAtEnd}
use Rattle.rex_traits.specs.declared.reading.TheConstants.{READ_BYTES}

-- The source has ended, or gave one byte more than an input may have; what it tells to have left began with the input, and where it has ended nothing is left.
pub record IsWholeInput (ended : Bool) (left_before left_now : Option (List ℕ)) (input : List ℕ) : Type 0 where
  pub end : (ended ≡ true) ⊎ (length input ≡ READ_BYTES)
  pub front : Consumes left_before left_now input
  pub all : ended ≡ true → IsAtEnd left_now
