-- Windows of a list of values, one for each instance from 1 on.
use Rattle.std.specs.Prelude.{◌≡◌, ℕ, ◌+◌, ◌-◌, ◌<◌, ◌≤◌, List, [], ◌∷◌, ◌++◌, length, take, drop, Some, slice_get, IsOk}
use Rattle.std.specs.List.{All}
use Rattle.rex_delta.specs.Reading.{delta_in}
use Rattle.rex_transfer.specs.declared.window.Look.{Look}
use Rattle.rex_transfer.specs.declared.window.Look.TheVariants as look
use Rattle.rex_ballot.specs.declared.ballots.TheConstants.{INSTANCES}

-- of how many instances the values aren't held, and the values of those after them
pub record WindowValue : Type 0 where
  pub offset : ℕ
  pub values : List (List ℕ)

-- of how many instances the values are known
abbrev pub known_of : WindowValue → ℕ
known_of w = w.offset + length w.values

-- a value spells a delta
abbrev pub SpellsDelta : List ℕ → Type 0
SpellsDelta value = IsOk (delta_in value)

-- there are no more instances than the most, and of the values the first so many spell deltas
pub record IsWindow (w : WindowValue) (checked : ℕ) : Type 0 where
  pub few : known_of w ≤ INSTANCES
  pub there : checked ≤ length w.values
  pub deltas : All SpellsDelta (take checked w.values)

-- the value of the next instance is there
abbrev pub pushed : WindowValue → List ℕ → WindowValue
pushed w value = record w { values = w.values ++ value ∷ [] }

-- the values up to an instance are forgotten
abbrev pub dropped_to : WindowValue → ℕ → WindowValue
dropped_to w instance = record { offset = instance; values = drop (instance - w.offset) w.values }

-- a window has an instance's value, where it holds it; it is gone where the instance is at most the offset, and beyond where it is above the last known one
abbrev pub Looks : WindowValue → ℕ → Look → Type 0
Looks w instance (look.Value value) = (w.offset < instance) × (slice_get w.values (instance - w.offset - 1) ≡ Some value.now)
Looks w instance (look.Gone offset) = (instance ≤ w.offset) × (offset ≡ w.offset)
Looks w instance (look.Beyond known) = (known_of w < instance) × (known ≡ known_of w)
