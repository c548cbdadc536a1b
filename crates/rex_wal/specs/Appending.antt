-- What an append does to a keeper.
use Rattle.std.specs.Prelude.{◌≡◌, ◌⊎◌, ◌+◌, ◌++◌, ◌∷◌, [], ℕ, Bool, true, false, IsTrue, List, Some, Result, Ok, Err, length, replicate}
use Rattle.rex_disk.specs.Calls.{Call}
use Rattle.rex_disk.specs.Calls.Call.{Reserves}
use Rattle.rex_journal.specs.Giving.{WritesThrough}
use Rattle.rex_traits.specs.declared.keeper.KeepFault.{KeepFault}
use Rattle.rex_traits.specs.declared.keeper.KeepFault.TheVariants.{Failed, OutOfMemory}
use Rattle.rex_wal.specs.Keeping.{AllStandFor, WalValue}
use Rattle.rex_wal.specs.Journal.{entry}

-- what is written for a record: its entry, and maybe bytes 0 behind it
pub record IsWritten (bytes written : List ℕ) : Type 0 where
  pub zeros : ℕ
  pub is : written ≡ entry bytes ++ replicate zeros 0

-- the answer of calls that all went well, and of those of which the last one failed
abbrev pub all_well : Result (Unit {0}) KeepFault
all_well = Ok tt

abbrev pub last_failed : Result (Unit {0}) KeepFault
last_failed = Err Failed

-- nothing was done to a disk, or it was asked for room
abbrev pub MayReserve : {D : Type 0} → (D → Call → Bool → D → Type 0) → D → D → Type 0
MayReserve gives old new = (new ≡ old) ⊎ ((bytes : ℕ) × (failed : Bool) × gives old (Reserves 2 bytes) failed new)

module _ {D : Type 0} (gives : D → Call → Bool → D → Type 0) (meets : D → Bool) (may_leave : D → List ℕ → Type 0) (faults : D → ℕ) where
  -- room was reserved for what is written for a record, and that was written and synced; or the one or the other failed
  pub record WritesRecord (old new : D) (bytes : List ℕ) (result : Result (Unit {0}) KeepFault) : Type 0 where
    pub mid : D
    pub at : ℕ
    pub written : List ℕ
    pub is : IsWritten bytes written
    pub room : gives old (Reserves 2 (length written)) false mid
    pub calls : WritesThrough gives at written mid new result
    pub model : meets new ≡ meets old

  -- an append that went well
  pub record Adds (old new : WalValue D) (bytes : List ℕ) : Type 0 where
    pub whole : old.broken ≡ false
    pub wrote : WritesRecord old.disk new.disk bytes all_well
    pub value : new ≡ record old { disk = new.disk; records = old.records ++ bytes ∷ [] }
    pub counted : faults new.disk ≡ faults old.disk

  -- one in which the disk failed: each image that a stop may leave stands for the records, with the new one or without
  pub record Breaks (old new : WalValue D) (bytes : List ℕ) : Type 0 where
    pub whole : old.broken ≡ false
    pub wrote : WritesRecord old.disk new.disk bytes last_failed
    pub value : new ≡ record old { disk = new.disk; broken = true }
    pub counted : faults new.disk ≡ faults old.disk + 1
    pub torn : IsTrue (meets new.disk) → AllStandFor (may_leave new.disk) old.records (Some bytes)

  -- one that found no memory
  pub record GivesUp (old new : WalValue D) : Type 0 where
    pub whole : old.broken ≡ false
    pub room : MayReserve gives old.disk new.disk
    pub value : new ≡ record old { disk = new.disk }
    pub model : meets new.disk ≡ meets old.disk
    pub counted : faults new.disk ≡ faults old.disk

  -- one to a keeper that was broken
  abbrev pub IsRefused : WalValue D → WalValue D → Type 0
  IsRefused old new = (old.broken ≡ true) × (new ≡ record old { refused = old.refused + 1 })

  -- what an append may do to a keeper
  abbrev pub Appends : WalValue D → List ℕ → Result (Unit {0}) KeepFault → WalValue D → Type 0
  Appends old bytes (Ok x) new = Adds old new bytes
  Appends old bytes (Err Failed) new = IsRefused old new ⊎ Breaks old new bytes
  Appends old bytes (Err OutOfMemory) new = (new ≡ old) ⊎ GivesUp old new
