-- The writes and syncs of a disk in memory, and what they make of its bytes.
use Rattle.std.specs.Prelude.{◌≡◌, ◌≤◌, ℕ, ◌+◌, ◌&&◌, nat_le, Bool, true, false, List, [], ◌∷◌, length, drop}
use Rattle.rex_disk.specs.Stops.{Torn, overwritten}
use Rattle.rex_disk.specs.Calls.{Call}
use Rattle.rex_disk.specs.Calls.Call.{Reads, Writes, Syncs, Reserves}

-- a write at a place of these bytes, or a sync; and whether it failed
pub data Done : Type 0 where
  Wrote : ℕ → List ℕ → Bool → Done
  Synced : Bool → Done

-- the bytes that a read gives once these were done, the newest first: a write that failed left them as they were
abbrev pub seen_after : List ℕ → List Done → List ℕ
seen_after first [] = first
seen_after first (Wrote at bytes false ∷ earlier) = overwritten at bytes (seen_after first earlier)
seen_after first (Wrote at bytes true ∷ earlier) = seen_after first earlier
seen_after first (Synced failed ∷ earlier) = seen_after first earlier

-- which bytes a stop may leave then: each write since the last sync is torn, whether it failed or not
abbrev pub LeftAfter : List ℕ → List Done → List ℕ → Type 0
LeftAfter first [] image = image ≡ first
LeftAfter first (Wrote at bytes failed ∷ earlier) image = (old : List ℕ) × LeftAfter first earlier old × Torn at (length bytes) old image
LeftAfter first (Synced false ∷ earlier) image = image ≡ seen_after first earlier
LeftAfter first (Synced true ∷ earlier) image = LeftAfter first earlier image

-- the same at some moment from this one on, a moment being how many were done
abbrev pub LeftSince : List ℕ → List Done → ℕ → List ℕ → Type 0
LeftSince first done moment image = (back : ℕ) × (moment + back ≤ length done) × LeftAfter first (drop back done) image

-- each write began within the bytes, or at their end
abbrev pub are_within : List ℕ → List Done → Bool
are_within first [] = true
are_within first (Wrote at bytes failed ∷ earlier) = nat_le at (length (seen_after first earlier)) && are_within first earlier
are_within first (Synced failed ∷ earlier) = are_within first earlier

-- with this call, if it is a write or a sync
abbrev pub noted : Call → Bool → List Done → List Done
noted (Reads at n) failed done = done
noted (Writes at bytes) failed done = Wrote at bytes failed ∷ done
noted Syncs failed done = Synced failed ∷ done
noted (Reserves calls bytes) failed done = done
