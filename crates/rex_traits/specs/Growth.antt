-- How bytes grow, that a source gave or a sink took, over several calls.
use Rattle.std.specs.Prelude.{◌≡◌, ◌++◌, ℕ, List, take}

-- They grew by some bytes.
abbrev pub Grows : List ℕ → List ℕ → Type 0
Grows before now = (bytes : List ℕ) × (now ≡ before ++ bytes)

-- They grew by a front of these bytes.
abbrev pub GrowsByFront : List ℕ → List ℕ → List ℕ → Type 0
GrowsByFront before now bytes = (count : ℕ) × (now ≡ before ++ take count bytes)

-- This holds of the bytes by which they grew.
abbrev pub ForGrowth : List ℕ → List ℕ → (List ℕ → Type 0) → Type 0
ForGrowth before now P = (bytes : List ℕ) → now ≡ before ++ bytes → P bytes
