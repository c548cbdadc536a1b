-- What a keeper on a disk is, and what a stop may leave of it.
use Rattle.std.specs.Prelude.{◌≡◌, ◌⊎◌, ◌<◌, ◌+◌, ◌++◌, ◌∷◌, [], ℕ, Bool, true, false, IsTrue, IsFalse, List, Option, length, take, Result, Ok, Err}
use Rattle.rex_disk.specs.Stops.{Only}
use Rattle.rex_journal.specs.Journal.{AllShort, StandsFor, open_records}
use Rattle.rex_journal.specs.declared.file.GateLeft.{GateLeft}
use Rattle.rex_journal.specs.declared.file.GateLeft.TheVariants.{Closed, Unknown, Open}
use Rattle.rex_traits.specs.declared.keeper.KeepFault.{KeepFault}
use Rattle.rex_traits.specs.declared.keeper.KeepFault.TheVariants.{Failed, OutOfMemory}

-- A keeper: its disk; its records; whether it is broken; whether what its disk reads may be another list; and how many appends were made while it was broken. Its records are those that it has acknowledged, and where it is broken that of the append that broke it, if its gate was opened.
pub record JournalValue (D : Type 0) : Type 0 where
  pub disk : D
  pub records : List (List ℕ)
  pub broken : Bool
  pub unsure : Bool
  pub refused : ℕ

-- The records stand on the disk behind open gates, and a closed gate stands at this place; a stop leaves just what is read.
pub record IsSettled {D : Type 0} (meets : D → Bool) (seen : D → List ℕ) (may_leave : D → List ℕ → Type 0) (disk : D) (records : List (List ℕ)) (gate : ℕ) : Type 0 where
  pub within : gate < length (seen disk)
  pub place : gate ≡ length (open_records records)
  pub short : AllShort records
  pub front : IsTrue (meets disk) → take (gate + 1) (seen disk) ≡ open_records records ++ 0 ∷ []
  pub durable : IsTrue (meets disk) → Only (seen disk) (may_leave disk)

-- The records stand on the disk behind open gates, and a closed gate stands at this place.
pub record IsFront {D : Type 0} (meets : D → Bool) (seen : D → List ℕ) (disk : D) (records : List (List ℕ)) (gate : ℕ) : Type 0 where
  pub place : gate ≡ length (open_records records)
  pub short : AllShort records
  pub front : IsTrue (meets disk) → take (gate + 1) (seen disk) ≡ open_records records ++ 0 ∷ []

-- What a failed append leaves of the records on the disk: the same where its gate is closed, and with one more where it is open.
abbrev pub LeavesFront : {D : Type 0} → (D → Bool) → (D → List ℕ) → D → List (List ℕ) → List ℕ → ℕ → ℕ → GateLeft → Type 0
LeavesFront meets seen disk records one_more gate next Closed = IsFront meets seen disk records gate
LeavesFront meets seen disk records one_more gate next Unknown = Unit {0}
LeavesFront meets seen disk records one_more gate next Open = IsFront meets seen disk (records ++ one_more ∷ []) next

-- What is kept of a keeper's parts: its records stand on the disk, where that is sure; and it is sure, and a stop leaves just what is read, where the keeper isn't broken.
pub record IsKept {D : Type 0} (meets : D → Bool) (seen : D → List ℕ) (may_leave : D → List ℕ → Type 0) (disk : D) (records : List (List ℕ)) (gate : ℕ) (broken unsure : Bool) : Type 0 where
  pub settled : IsFalse broken → IsSettled meets seen may_leave disk records gate
  pub front : IsFalse unsure → IsFront meets seen disk records gate
  pub sure : IsFalse broken → IsFalse unsure

-- each image that a stop may leave now stands for these records, with the pending one or without
abbrev pub AllStandFor : (List ℕ → Type 0) → List (List ℕ) → Option (List ℕ) → Type 0
AllStandFor may_leave records pending = (image : List ℕ) → may_leave image → StandsFor records pending image

-- an append breaks a keeper where it fails, and nowhere else
abbrev pub Breaks : {T : Type 0} → Bool → Bool → Result T KeepFault → Type 0
Breaks before now (Ok x) = (before ≡ false) × (now ≡ false)
Breaks before now (Err Failed) = now ≡ true
Breaks before now (Err OutOfMemory) = (before ≡ false) × (now ≡ false)

-- the records gain one where an append succeeds, and maybe where it fails, and stay where memory ran out
abbrev pub KeepsRecords : {T : Type 0} → List (List ℕ) → List (List ℕ) → List ℕ → Result T KeepFault → Type 0
KeepsRecords before now bytes (Ok x) = now ≡ before ++ bytes ∷ []
KeepsRecords before now bytes (Err Failed) = (now ≡ before) ⊎ (now ≡ before ++ bytes ∷ [])
KeepsRecords before now bytes (Err OutOfMemory) = now ≡ before

-- An append to a broken keeper fails and is counted. To one that isn't, it fails just where the disk's count rises, by one.
abbrev pub CountsAppend : {T : Type 0} → Bool → ℕ → ℕ → ℕ → ℕ → Result T KeepFault → Type 0
CountsAppend true before now refused refused_now (Ok x) = ⊥
CountsAppend true before now refused refused_now (Err Failed) = (now ≡ before) × (refused_now ≡ refused + 1)
CountsAppend true before now refused refused_now (Err OutOfMemory) = ⊥
CountsAppend false before now refused refused_now (Ok x) = (now ≡ before) × (refused_now ≡ refused)
CountsAppend false before now refused refused_now (Err Failed) = (now ≡ before + 1) × (refused_now ≡ refused)
CountsAppend false before now refused refused_now (Err OutOfMemory) = (now ≡ before) × (refused_now ≡ refused)
