-- How a disk in memory stores its record: one entry for each write and sync, and the written bytes one after another.
use Rattle.std.specs.Prelude.{ℕ, ◌+◌, List, [], ◌∷◌, take, drop}
use Rattle.rex_disk.specs.Record.{Done}
use Rattle.rex_disk.specs.Record.Done.{Wrote, Synced}
use Rattle.rex_disk.specs.declared.entry.Entry.{Entry}
use Rattle.rex_disk.specs.declared.entry.Entry.TheVariants.{Write, Sync}

-- the record of these entries, from the oldest on, over these bytes, behind what was done before
abbrev pub decoded : List Done → List Entry → List ℕ → List Done
decoded done [] bytes = done
decoded done (Write at len failed ∷ later) bytes = decoded (Wrote at (take len bytes) failed ∷ done) later (drop len bytes)
decoded done (Sync failed ∷ later) bytes = decoded (Synced failed ∷ done) later bytes

-- how many bytes the entries stand for
abbrev pub written_by : List Entry → ℕ
written_by [] = 0
written_by (Write at len failed ∷ later) = len + written_by later
written_by (Sync failed ∷ later) = written_by later
