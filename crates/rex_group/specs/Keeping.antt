-- A keeper whose records wait, over another keeper.
use Rattle.std.specs.Prelude.{◌≡◌, ◌≢◌, ◌⊎◌, ◌<◌, ◌≤◌, ◌^◌, ℕ, List, [], ◌∷◌, ◌++◌, Ok, Err, length, take, drop}
use Rattle.std.specs.List.{All}
use Rattle.std.proofs.Common.{ap}
use Rattle.rex_traits.specs.Chains.{Answer}
use Rattle.rex_traits.specs.declared.keeper.KeepFault.TheVariants.{Failed, OutOfMemory}
use Rattle.rex_group.specs.declared.reading.Place.{Place}
use Rattle.rex_group.specs.Groups.{HoldAll, IsShort, group}
use Rattle.rex_group.specs.Places.{IsWithin, record_of, records_at}

-- A keeper: the one below, the records that are kept for good there, and those that wait.
pub record GroupValue (K : Type 0) : Type 0 where
  pub keeper : K
  pub kept : List (List ℕ)
  pub waits : List (List ℕ)

-- over this keeper, which has so many of these records
abbrev pub value_of : {K : Type 0} → K → List (List ℕ) → ℕ → GroupValue K
value_of keeper records count = record { keeper = keeper; kept = take count records; waits = drop count records }

-- what is kept below, and the group that comes next
abbrev pub all_of : List (List ℕ) → List ℕ → List (List ℕ)
all_of below next = below ++ next ∷ []

-- What is kept below holds the first records, and the group that comes next is of the others and short enough to be appended.
pub record IsGrouped (below : List (List ℕ)) (next : List ℕ) (places : List Place) (kept : ℕ) : Type 0 where
  pub few : kept ≤ length places
  pub old : All (λ p. p.index < length below) (take kept places)
  pub new : All (λ p. p.index ≡ length below) (drop kept places)
  pub within : All (λ p. IsWithin (record_of (all_of below next) p) p) places
  pub holds : HoldAll below (take kept (records_at (all_of below next) places))
  pub short : All IsShort (drop kept (records_at (all_of below next) places))
  pub group : next ≡ group (drop kept (records_at (all_of below next) places))
  pub fits : length next < 2 ^ 32

-- ---- appends and flushes

-- an append adds a record to those that wait; it never fails, and where memory ran out nothing has changed
abbrev pub Waits : {K : Type 0} → GroupValue K → List ℕ → Answer → GroupValue K → Type 0
Waits old bytes (Ok x) new = new ≡ record old { waits = old.waits ++ bytes ∷ [] }
Waits old bytes (Err Failed) new = ⊥
Waits old bytes (Err OutOfMemory) new = new ≡ old

-- so it keeps nothing for good
pub kept_stays : {K : Type 0} (old new : GroupValue K) (bytes : List ℕ) (result : Answer) → Waits old bytes result new → new.kept ≡ old.kept
kept_stays {K} old new bytes (Ok x) h = ap (λ (g : GroupValue K). g.kept) h
kept_stays old new bytes (Err Failed) h = absurd h
kept_stays {K} old new bytes (Err OutOfMemory) h = ap (λ (g : GroupValue K). g.kept) h

-- the keeper below is this one
abbrev pub over : {K : Type 0} → K → GroupValue K → GroupValue K
over keeper g = record g { keeper = keeper }

-- the records that waited are kept
abbrev pub settled : {K : Type 0} → GroupValue K → GroupValue K
settled g = record g { kept = g.kept ++ g.waits; waits = [] }

-- a flush does nothing where none waits
pub record FlushesNone {K : Type 0} (old : GroupValue K) (result : Answer) (new : GroupValue K) : Type 0 where
  pub none : old.waits ≡ []
  pub ok : result ≡ Ok tt
  pub same : new ≡ old

-- else it hands their group to the keeper below, and either they wait on or they are kept
pub record HandsOn {K : Type 0} (gives : K → List ℕ → Answer → K → Type 0) (old : GroupValue K) (result : Answer) (new : GroupValue K) : Type 0 where
  pub some : old.waits ≢ []
  pub appended : gives old.keeper (group old.waits) result new.keeper
  pub value : (new ≡ over new.keeper old) ⊎ (new ≡ settled (over new.keeper old))

-- what a flush does, by what an append does to the keeper below
abbrev pub FlushesGroup : {K : Type 0} → (K → List ℕ → Answer → K → Type 0) → GroupValue K → Answer → GroupValue K → Type 0
FlushesGroup gives old result new = FlushesNone old result new ⊎ HandsOn gives old result new
