-- What follows from how the bytes of a journal are laid out.
use Rattle.std.specs.Prelude.{◌≡◌, ℕ, List}
use Rattle.rex_wal.specs.Journal.{Holds, IsBad}

-- a file holds one list of records at most
abbrev pub HoldsOne : Type 0
HoldsOne = (file : List ℕ) (records others : List (List ℕ)) → Holds file records → Holds file others → records ≡ others

-- a bad journal holds no records
abbrev pub BadHoldsNone : Type 0
BadHoldsNone = (file : List ℕ) (at : ℕ) (records : List (List ℕ)) → IsBad file at → Holds file records → ⊥
