-- What a file is as a disk, and what its calls do.
use Rattle.std.specs.Prelude.{◌≡◌, ◌≤◌, ◌+◌, ◌^◌, ◌||◌, ℕ, Bool, true, false, IsTrue, List, [], ◌∷◌, length}
use Rattle.rex_disk.specs.Calls.{Call}
use Rattle.rex_disk.specs.Calls.Call.{Reads, Writes, Syncs, Reserves}
use Rattle.rex_disk.specs.Record.{Done, noted, seen_after}
use Rattle.rex_disk.specs.Record.Done.{Wrote, Synced}

-- the bytes that it was opened with, its writes and syncs, the newest first, how many calls failed, and the reserved room
pub record FileValue : Type 0 where
  pub first : List ℕ
  pub done : List Done
  pub faults : ℕ
  pub calls_left : ℕ
  pub bytes_left : ℕ

-- a file of these bytes to which nothing was done since it was opened
abbrev pub opened_file : List ℕ → FileValue
opened_file bytes = record { first = bytes; done = []; faults = 0; calls_left = 0; bytes_left = 0 }

-- one of these was a write
abbrev pub has_written : List Done → Bool
has_written [] = false
has_written (Wrote at bytes failed ∷ earlier) = true
has_written (Synced failed ∷ earlier) = has_written earlier

-- one of these failed
abbrev pub has_failed : List Done → Bool
has_failed [] = false
has_failed (Wrote at bytes failed ∷ earlier) = failed || has_failed earlier
has_failed (Synced failed ∷ earlier) = failed || has_failed earlier

-- A read fails just where something was written. A write or a sync fails where one before it failed. Room is missing only where the file would get 2^64 bytes.
abbrev pub FailsAsDue : FileValue → Call → Bool → Type 0
FailsAsDue file (Reads at n) failed = failed ≡ has_written file.done
FailsAsDue file (Writes at bytes) failed = IsTrue (has_failed file.done) → IsTrue failed
FailsAsDue file Syncs failed = IsTrue (has_failed file.done) → IsTrue failed
FailsAsDue file (Reserves calls bytes) failed = IsTrue failed → 2 ^ 64 ≤ length (seen_after file.first file.done) + bytes

-- a call is noted if it is a write or a sync, and fails as is due
pub record NotesCall (old : FileValue) (call : Call) (failed : Bool) (new : FileValue) : Type 0 where
  pub recorded : new.done ≡ noted call failed old.done
  pub same_first : new.first ≡ old.first
  pub due : FailsAsDue old call failed
