-- What follows from how the bytes of a journal are laid out.
use Rattle.std.specs.Prelude.{◌≡◌, ◌⊎◌, ℕ, List, [], ◌∷◌, ◌++◌, Some, None}
use Rattle.rex_journal.specs.Journal.{AllShort, Holds, IsBad, StandsFor}

-- a file holds one list of records at most
abbrev pub HoldsOne : Type 0
HoldsOne = (file : List ℕ) (records others : List (List ℕ)) → Holds file records → Holds file others → records ≡ others

-- a bad journal holds no records
abbrev pub BadHoldsNone : Type 0
BadHoldsNone = (file : List ℕ) (at : ℕ) (records : List (List ℕ)) → IsBad file at → Holds file records → ⊥

-- a bad journal is bad at one place
abbrev pub BadOnce : Type 0
BadOnce = (file : List ℕ) (at other : ℕ) → IsBad file at → IsBad file other → at ≡ other

-- a file that stands for records, with nothing pending, holds them
abbrev pub RestHolds : Type 0
RestHolds = (file : List ℕ) (records : List (List ℕ)) → AllShort records → StandsFor records None file → Holds file records

-- a file that stands for records with one that is pending holds them, or them and that one
abbrev pub PendingHolds : Type 0
PendingHolds = (file : List ℕ) (records : List (List ℕ)) (one_more : List ℕ) → AllShort records → StandsFor records (Some one_more) file → Holds file records ⊎ Holds file (records ++ one_more ∷ [])
