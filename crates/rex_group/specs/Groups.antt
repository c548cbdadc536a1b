-- Records that hold others.
use Rattle.std.specs.Prelude.{◌≡◌, ◌≢◌, ◌⊎◌, ◌+◌, ◌<◌, ◌≤◌, ◌^◌, ℕ, List, [], ◌∷◌, ◌++◌, length, take, slice_range}
use Rattle.std.specs.List.{All, flat_map}
use Rattle.rex_wire.specs.Spelling.{value_bytes}
use Rattle.rex_group.specs.declared.TheConstants.{GROUP}

-- a group of records: its first byte, and then each of them behind its length
abbrev pub group : List (List ℕ) → List ℕ
group records = GROUP ∷ flat_map value_bytes records

-- the length of a record can be told
abbrev pub IsShort : List ℕ → Type 0
IsShort bytes = length bytes < 2 ^ 32

-- bytes are a group of these records
pub record IsGroupOf (bytes : List ℕ) (records : List (List ℕ)) : Type 0 where
  pub short : All IsShort records
  pub is : bytes ≡ group records

-- bytes are a group of no records
abbrev pub IsNoGroup : List ℕ → Type 0
IsNoGroup bytes = (records : List (List ℕ)) → IsGroupOf bytes records → ⊥

-- bytes hold these records: a group of them; or just themselves, where they are no group
abbrev pub Holds : List ℕ → List (List ℕ) → Type 0
Holds bytes records = IsGroupOf bytes records ⊎ (IsNoGroup bytes × (records ≡ bytes ∷ []))

-- what is kept below holds these records, in their order
abbrev pub HoldAll : List (List ℕ) → List (List ℕ) → Type 0
HoldAll [] records = records ≡ []
HoldAll (bytes ∷ below) records =
    (first : List (List ℕ)) × (others : List (List ℕ)) × Holds bytes first × HoldAll below others × (records ≡ first ++ others)

-- ---- reading

-- a record of so many bytes stands at the front of these, behind its length
pub record BeginsWith (bytes : List ℕ) (count : ℕ) : Type 0 where
  pub short : count < 2 ^ 32
  pub within : 4 + count ≤ length bytes
  pub front : take (4 + count) bytes ≡ value_bytes (slice_range bytes 4 (4 + count))

-- no whole record stands there behind its length
abbrev pub BeginsNone : List ℕ → Type 0
BeginsNone bytes = (first others : List ℕ) → IsShort first → bytes ≢ value_bytes first ++ others
