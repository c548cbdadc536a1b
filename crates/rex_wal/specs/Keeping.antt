-- What a keeper on a disk is, and what a stop may leave of it.
use Rattle.std.specs.Prelude.{◌≡◌, ◌≤◌, ◌+◌, ◌++◌, ℕ, Bool, IsTrue, IsFalse, List, Option, length, replicate, All}
use Rattle.rex_disk.specs.Stops.{Only}
use Rattle.rex_wal.specs.Journal.{IsRecord, StandsFor, entries, head}

-- A keeper: its disk, its records, whether it is broken, and how many appends were made while it was.
pub record WalValue (D : Type 0) : Type 0 where
  pub disk : D
  pub records : List (List ℕ)
  pub broken : Bool
  pub refused : ℕ

-- a file has the head, these records, and behind them nothing but 0
pub record IsClean (file : List ℕ) (records : List (List ℕ)) : Type 0 where
  pub zeros : ℕ
  pub split : file ≡ head ++ (entries records ++ replicate zeros 0)

-- The records stand so on the disk, up to this place, and a stop leaves just what is read.
pub record IsSettled {D : Type 0} (meets : D → Bool) (seen : D → List ℕ) (may_leave : D → List ℕ → Type 0) (disk : D) (records : List (List ℕ)) (end : ℕ) : Type 0 where
  pub place : end ≡ length head + length (entries records)
  pub within : end ≤ length (seen disk)
  pub each : All IsRecord records
  pub clean : IsTrue (meets disk) → IsClean (seen disk) records
  pub durable : IsTrue (meets disk) → Only (seen disk) (may_leave disk)

-- What is kept of a keeper's parts, unless it is broken.
abbrev pub IsKept : {D : Type 0} → (D → Bool) → (D → List ℕ) → (D → List ℕ → Type 0) → D → List (List ℕ) → ℕ → Bool → Type 0
IsKept meets seen may_leave disk records end broken = IsFalse broken → IsSettled meets seen may_leave disk records end

-- each image that a stop may leave now stands for these records, with the pending one or without
abbrev pub AllStandFor : (List ℕ → Type 0) → List (List ℕ) → Option (List ℕ) → Type 0
AllStandFor may_leave records pending = (image : List ℕ) → may_leave image → StandsFor records pending image
