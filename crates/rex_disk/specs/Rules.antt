-- What a stop may leave of a disk in memory, said at once of all writes since the last sync that went well.
use Rattle.std.specs.Prelude.{◌≡◌, ◌⊎◌, ◌↔◌, ◌<◌, ◌≤◌, ℕ, ◌+◌, max, true, false, List, [], ◌∷◌, length, slice_index}
use Rattle.rex_disk.specs.Record.{Done, LeftAfter, are_within, seen_after}
use Rattle.rex_disk.specs.Record.Done.{Wrote, Synced}

-- what was read at that sync, or the first bytes where there was none
abbrev pub old_bytes : List ℕ → List Done → List ℕ
old_bytes first [] = first
old_bytes first (Wrote at bytes failed ∷ earlier) = old_bytes first earlier
old_bytes first (Synced false ∷ earlier) = seen_after first earlier
old_bytes first (Synced true ∷ earlier) = old_bytes first earlier

-- the greatest end of a write since then, or the old end
abbrev pub greatest_end : List ℕ → List Done → ℕ
greatest_end first [] = length first
greatest_end first (Wrote at bytes failed ∷ earlier) = max (greatest_end first earlier) (at + length bytes)
greatest_end first (Synced false ∷ earlier) = length (seen_after first earlier)
greatest_end first (Synced true ∷ earlier) = greatest_end first earlier

-- no write since then, not even one that failed, went over this offset
abbrev pub IsUntouched : List Done → ℕ → Type 0
IsUntouched [] i = Unit {0}
IsUntouched (Wrote at bytes failed ∷ earlier) i = ((i < at) ⊎ (at + length bytes ≤ i)) × IsUntouched earlier i
IsUntouched (Synced false ∷ earlier) i = Unit {0}
IsUntouched (Synced true ∷ earlier) i = IsUntouched earlier i

-- the length is any from the old one to the greatest end, and up to the old end each byte over which no write went is the old one
pub record IsAllowed (first : List ℕ) (done : List Done) (image : List ℕ) : Type 0 where
  pub no_shorter : length (old_bytes first done) ≤ length image
  pub no_longer : length image ≤ greatest_end first done
  pub old : (i : ℕ) → i < length (old_bytes first done) → IsUntouched done i → slice_index image i ≡ slice_index (old_bytes first done) i

-- a stop may leave just these images
abbrev pub AllowedAreLeft : Type 0
AllowedAreLeft = (first : List ℕ) (done : List Done) (image : List ℕ) → are_within first done ≡ true → (LeftAfter first done image ↔ IsAllowed first done image)
