-- What a stop may leave of a disk whose writes tear between bytes only.
use Rattle.std.specs.Prelude.{◌≡◌, ◌⊎◌, ◌<◌, ◌≤◌, ℕ, ◌+◌, true, false, List, [], ◌∷◌, length, drop, slice_index_or}
use Rattle.rex_disk.specs.Record.{Done, seen_after}
use Rattle.rex_disk.specs.Record.Done.{Wrote, Synced}
use Rattle.rex_disk.specs.Stops.{Torn}

-- the byte at this place, which is 0 past the end
abbrev pub byte_at : List ℕ → ℕ → ℕ
byte_at bytes i = slice_index_or bytes i 0

-- a write of these bytes at this place was torn: each byte in its range is the old one or the one that was written
pub record Mixed (at : ℕ) (bytes old new : List ℕ) : Type 0 where
  pub torn : Torn at (length bytes) old new
  pub each : (i : ℕ) → i < length bytes → (byte_at new (at + i) ≡ byte_at old (at + i)) ⊎ (byte_at new (at + i) ≡ byte_at bytes i)

-- each image that may be left now is one that might have been left before, with this write torn so
abbrev pub Mixes : ℕ → List ℕ → (List ℕ → Type 0) → (List ℕ → Type 0) → Type 0
Mixes at bytes before now = (image : List ℕ) → now image → (old : List ℕ) × before old × Mixed at bytes old image

-- which bytes a stop may leave once these were done, the newest first: each write since the last sync that went well is torn so, whether it failed or not
abbrev pub MixedAfter : List ℕ → List Done → List ℕ → Type 0
MixedAfter first [] image = image ≡ first
MixedAfter first (Wrote at bytes failed ∷ earlier) image = (old : List ℕ) × MixedAfter first earlier old × Mixed at bytes old image
MixedAfter first (Synced false ∷ earlier) image = image ≡ seen_after first earlier
MixedAfter first (Synced true ∷ earlier) image = MixedAfter first earlier image

-- the same at some moment from this one on, a moment being how many were done
abbrev pub MixedSince : List ℕ → List Done → ℕ → List ℕ → Type 0
MixedSince first done moment image = (back : ℕ) × (moment + back ≤ length done) × MixedAfter first (drop back done) image
