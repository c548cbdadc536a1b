-- Which calls of a disk the calls of a keeper make.
use Rattle.std.specs.Prelude.{◌≡◌, ◌⊎◌, ◌+◌, ◌++◌, ◌∷◌, [], ℕ, Bool, true, false, List, Result, Ok, Err, length, take}
use Rattle.rex_disk.specs.Calls.{Call, CallsInTurn, FailsInTurn}
use Rattle.rex_disk.specs.Calls.Call.{Reads, Writes, Syncs, Reserves}
use Rattle.rex_traits.specs.declared.keeper.KeepFault.{KeepFault}
use Rattle.rex_traits.specs.declared.keeper.KeepFault.TheVariants.{Failed, OutOfMemory}
use Rattle.rex_journal.specs.declared.fault.OpenFault.{OpenFault}
use Rattle.rex_journal.specs.declared.fault.OpenFault.TheVariants as open_fault
use Rattle.rex_journal.specs.declared.file.GateLeft.{GateLeft}
use Rattle.rex_journal.specs.declared.file.GateLeft.TheVariants.{Closed, Unknown, Open}
use Rattle.rex_journal.specs.Journal.{entry}
use Rattle.rex_journal.specs.Keeping.{JournalValue}

-- the disk itself fails in this call: room is no such call
abbrev pub IsOfDevice : Call → Type 0
IsOfDevice (Reads at n) = Unit {0}
IsOfDevice (Writes at bytes) = Unit {0}
IsOfDevice Syncs = Unit {0}
IsOfDevice (Reserves calls bytes) = ⊥

-- calls were made that didn't fail
abbrev pub Goes : {D : Type 0} → (D → Call → Bool → D → Type 0) → D → D → Type 0
Goes gives old new = (calls : List Call) × CallsInTurn gives old calls new

-- a call that writes nothing
abbrev pub IsLook : Call → Type 0
IsLook (Reads at n) = Unit {0}
IsLook (Writes at bytes) = ⊥
IsLook Syncs = Unit {0}
IsLook (Reserves calls bytes) = Unit {0}

-- none of these calls writes
abbrev pub AreLooks : List Call → Type 0
AreLooks [] = Unit {0}
AreLooks (call ∷ calls) = IsLook call × AreLooks calls

-- calls were made that wrote nothing, and none failed
abbrev pub Looks : {D : Type 0} → (D → Call → Bool → D → Type 0) → D → D → Type 0
Looks gives old new = (calls : List Call) × AreLooks calls × CallsInTurn gives old calls new

-- a call failed that writes nothing, and is one of the disk itself
abbrev pub LookFails : {D : Type 0} → (D → Call → Bool → D → Type 0) → D → D → Type 0
LookFails gives old new = (call : Call) × IsLook call × IsOfDevice call × gives old call true new

-- a write of these bytes failed, or it was made and the sync behind it failed
abbrev pub WriteFails : {D : Type 0} → (D → Call → Bool → D → Type 0) → ℕ → List ℕ → D → D → Type 0
WriteFails gives at bytes old new = FailsInTurn gives old [] (Writes at bytes) new ⊎ FailsInTurn gives old (Writes at bytes ∷ []) Syncs new

-- calls were made that wrote nothing, and then one failed: nothing was written but maybe the byte 0 at one place, and that right before
abbrev pub Ends : {D : Type 0} → (D → Call → Bool → D → Type 0) → D → D → Type 0
Ends {D} gives old new = (mid : D) × Looks gives old mid × (LookFails gives mid new ⊎ ((gate : ℕ) × WriteFails gives gate (0 ∷ []) mid new))

-- a gate was closed by calls that didn't fail, or by a write of 0 and a sync of which one failed
abbrev pub Closes : {D T E : Type 0} → (D → Call → Bool → D → Type 0) → ℕ → D → D → Result T E → Type 0
Closes gives gate old new (Ok x) = Goes gives old new
Closes gives gate old new (Err e) = WriteFails gives gate (0 ∷ []) old new

-- a disk was asked for room and had none
abbrev pub HasNoRoom : {D : Type 0} → (D → Call → Bool → D → Type 0) → D → D → Type 0
HasNoRoom gives old new = (calls : ℕ) × (bytes : ℕ) × gives old (Reserves calls bytes) true new

-- how the calls of opening a journal end where it is refused: nothing was written, unless the disk failed
abbrev pub EndsAs : {D : Type 0} → (D → Call → Bool → D → Type 0) → D → D → OpenFault → Type 0
EndsAs gives old new open_fault.Failed = Ends gives old new
EndsAs gives old new (open_fault.BadJournal at) = Looks gives old new
EndsAs gives old new open_fault.OutOfMemory = Looks gives old new ⊎ HasNoRoom gives old new

abbrev pub Opens : {D T : Type 0} → (D → Call → Bool → D → Type 0) → D → D → Result T OpenFault → Type 0
Opens gives old new (Ok x) = Goes gives old new
Opens gives old new (Err fault) = EndsAs gives old new fault

-- the same where nothing is written before the answer
abbrev pub LooksInto : {D T : Type 0} → (D → Call → Bool → D → Type 0) → D → D → Result T OpenFault → Type 0
LooksInto gives old new (Ok x) = Looks gives old new
LooksInto gives old new (Err fault) = EndsAs gives old new fault

-- a write of these bytes and a sync: both were made, or the one or the other failed
abbrev pub WritesThrough : {D T E : Type 0} → (D → Call → Bool → D → Type 0) → ℕ → List ℕ → D → D → Result T E → Type 0
WritesThrough gives at bytes old new (Ok x) = CallsInTurn gives old (Writes at bytes ∷ Syncs ∷ []) new
WritesThrough gives at bytes old new (Err e) = WriteFails gives at bytes old new

-- the same of a gate, which is left unknown where its write failed, and open where its sync did
abbrev pub OpensGate : {D T : Type 0} → (D → Call → Bool → D → Type 0) → ℕ → D → D → Result T GateLeft → Type 0
OpensGate gives gate old new (Ok x) = CallsInTurn gives old (Writes gate (1 ∷ []) ∷ Syncs ∷ []) new
OpensGate gives gate old new (Err Closed) = ⊥
OpensGate gives gate old new (Err Unknown) = FailsInTurn gives old [] (Writes gate (1 ∷ [])) new
OpensGate gives gate old new (Err Open) = FailsInTurn gives old (Writes gate (1 ∷ []) ∷ []) Syncs new

-- the gate was written
abbrev pub Opened : {T : Type 0} → Type 0 → Result T GateLeft → Type 0
Opened P (Ok x) = P
Opened P (Err Closed) = Unit {0}
Opened P (Err Unknown) = Unit {0}
Opened P (Err Open) = P

-- the four calls of an append, or those up to the one that failed
abbrev pub Commits : {D T : Type 0} → (D → Call → Bool → D → Type 0) → ℕ → List ℕ → D → D → Result T GateLeft → Type 0
Commits gives gate spelled old new (Ok x) = CallsInTurn gives old (Writes (gate + 1) spelled ∷ Syncs ∷ Writes gate (1 ∷ []) ∷ Syncs ∷ []) new
Commits gives gate spelled old new (Err Closed) = FailsInTurn gives old [] (Writes (gate + 1) spelled) new ⊎ FailsInTurn gives old (Writes (gate + 1) spelled ∷ []) Syncs new
Commits gives gate spelled old new (Err Unknown) = FailsInTurn gives old (Writes (gate + 1) spelled ∷ Syncs ∷ []) (Writes gate (1 ∷ [])) new
Commits gives gate spelled old new (Err Open) = FailsInTurn gives old (Writes (gate + 1) spelled ∷ Syncs ∷ Writes gate (1 ∷ []) ∷ []) Syncs new

-- the answer of calls that all went well
abbrev pub committed : Result (Unit {0}) GateLeft
committed = Ok tt

-- and of calls of which the last failed
abbrev pub left_as : GateLeft → Result (Unit {0}) GateLeft
left_as left = Err left

-- the list has the record of a failed append where its gate was opened
abbrev pub records_left : GateLeft → List (List ℕ) → List ℕ → List (List ℕ)
records_left Closed records bytes = records
records_left Unknown records bytes = records
records_left Open records bytes = records ++ bytes ∷ []

-- so it is cut down from the list with that record, which stands behind so many others
abbrev pub records_cut : GateLeft → ℕ → List (List ℕ) → List (List ℕ)
records_cut Closed count records = take count records
records_cut Unknown count records = take count records
records_cut Open count records = records

-- the last gate is the next one then
abbrev pub gate_left : GateLeft → ℕ → ℕ → ℕ
gate_left Closed gate next = gate
gate_left Unknown gate next = gate
gate_left Open gate next = next

-- what the disk reads is known to be that list, unless the write of the gate failed
abbrev pub unsure_left : GateLeft → Bool
unsure_left Closed = false
unsure_left Unknown = true
unsure_left Open = false

module _ {D : Type 0} (gives : D → Call → Bool → D → Type 0) (meets : D → Bool) (faults : D → ℕ) where
  -- an append that went well
  pub record Adds (old new : JournalValue D) (bytes : List ℕ) : Type 0 where
    pub whole : old.broken ≡ false
    pub mid : D
    pub gate : ℕ
    pub room : gives old.disk (Reserves 4 (length bytes + 6)) false mid
    pub calls : Commits gives gate (entry bytes) mid new.disk committed
    pub value : new ≡ record old { disk = new.disk; records = old.records ++ bytes ∷ [] }
    pub model : meets new.disk ≡ meets old.disk
    pub counted : faults new.disk ≡ faults old.disk

  -- one in which the disk failed
  pub record Breaks (old new : JournalValue D) (bytes : List ℕ) : Type 0 where
    pub whole : old.broken ≡ false
    pub mid : D
    pub gate : ℕ
    pub left : GateLeft
    pub room : gives old.disk (Reserves 4 (length bytes + 6)) false mid
    pub calls : Commits gives gate (entry bytes) mid new.disk (left_as left)
    pub value : new ≡ record old { disk = new.disk; records = records_left left old.records bytes; broken = true; unsure = unsure_left left }
    pub model : meets new.disk ≡ meets old.disk
    pub counted : faults new.disk ≡ faults old.disk + 1

  -- one that found no memory
  pub record GivesUp (old new : JournalValue D) (bytes : List ℕ) : Type 0 where
    pub failed : Bool
    pub room : gives old.disk (Reserves 4 (length bytes + 6)) failed new.disk
    pub value : new ≡ record old { disk = new.disk }
    pub model : meets new.disk ≡ meets old.disk
    pub counted : faults new.disk ≡ faults old.disk

  -- one to a keeper that was broken
  abbrev pub IsRefused : JournalValue D → JournalValue D → Type 0
  IsRefused old new = (old.broken ≡ true) × (new ≡ record old { refused = old.refused + 1 })

  -- what an append may do to a keeper
  abbrev pub Appends : JournalValue D → List ℕ → Result (Unit {0}) KeepFault → JournalValue D → Type 0
  Appends old bytes (Ok x) new = Adds old new bytes
  Appends old bytes (Err Failed) new = IsRefused old new ⊎ Breaks old new bytes
  Appends old bytes (Err OutOfMemory) new = (new ≡ old) ⊎ GivesUp old new bytes
