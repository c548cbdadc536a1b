-- Where records stand in those of a keeper.
use Rattle.std.specs.Prelude.{◌≡◌, ◌<◌, ◌≤◌, ℕ, List, [], length, map, take, slice_index_or, slice_range}
use Rattle.std.specs.List.{All}
use Rattle.rex_group.specs.declared.reading.Place.{Place}
use Rattle.rex_group.specs.Groups.{HoldAll, Holds, IsGroupOf}

-- what stands in some bytes from a place's start to its end
abbrev pub part : List ℕ → Place → List ℕ
part bytes p = slice_range bytes p.start p.end

-- the bytes reach as far
pub record IsWithin (bytes : List ℕ) (p : Place) : Type 0 where
  pub forward : p.start ≤ p.end
  pub end : p.end ≤ length bytes

-- the record that a place is in, of these
abbrev pub record_of : List (List ℕ) → Place → List ℕ
record_of all p = slice_index_or all p.index []

-- what stands at these places of them
abbrev pub records_at : List (List ℕ) → List Place → List (List ℕ)
records_at all places = map (λ p. part (record_of all p) p) places

-- the first bytes of a record are a group of what stands at these places
pub record AreMembers (index : ℕ) (bytes : List ℕ) (end : ℕ) (places : List Place) : Type 0 where
  pub same : All (λ p. p.index ≡ index) places
  pub within : All (IsWithin bytes) places
  pub few : end ≤ length bytes
  pub group : IsGroupOf (take end bytes) (map (part bytes) places)

-- a record holds what stands at these places
pub record AreParts (index : ℕ) (bytes : List ℕ) (places : List Place) : Type 0 where
  pub same : All (λ p. p.index ≡ index) places
  pub within : All (IsWithin bytes) places
  pub holds : Holds bytes (map (part bytes) places)

-- the first records of these hold what stands at these places
pub record AreFound (all : List (List ℕ)) (count : ℕ) (places : List Place) : Type 0 where
  pub known : All (λ p. p.index < count) places
  pub within : All (λ p. IsWithin (record_of all p) p) places
  pub holds : HoldAll (take count all) (records_at all places)
