-- What opening a journal finds, and when it is refused.
use Rattle.std.specs.Prelude.{◌≡◌, ◌⊎◌, ◌≤◌, ◌+◌, max, ℕ, Bool, true, false, List, [], length, Result, Ok, Err}
use Rattle.rex_disk.specs.Calls.{Call}
use Rattle.rex_journal.specs.Giving.{Goes, HasNoRoom, LookFails, Looks, WriteFails}
use Rattle.rex_disk.specs.Stops.{overwritten}
use Rattle.rex_file.specs.Mixing.{Mixed}
use Rattle.rex_wal.specs.Keeping.{IsClean}
use Rattle.rex_wal.specs.Journal.{HasRecords, Holds, IsBegun, entries, head}
use Rattle.rex_journal.specs.declared.fault.OpenFault.{OpenFault}
use Rattle.rex_journal.specs.declared.fault.OpenFault.TheVariants.{Failed, BadJournal, OutOfMemory}

-- a file is only begun, or has these records up to this place
abbrev pub IsFound : List ℕ → List (List ℕ) → ℕ → Bool → Type 0
IsFound file records end true = IsBegun file × (records ≡ []) × (end ≡ length head)
IsFound file records end false = HasRecords file records × (end ≡ length head + length (entries records))

-- calls were made that wrote nothing, and then one failed: nothing was written but maybe some bytes at one place, and that right before
abbrev pub Ends : {D : Type 0} → (D → Call → Bool → D → Type 0) → D → D → Type 0
Ends {D} gives old new = (mid : D) × Looks gives old mid × (LookFails gives mid new ⊎ ((at : ℕ) × (written : List ℕ) × WriteFails gives at written mid new))

-- how the calls of opening a journal end where it is refused: nothing was written, unless the disk failed
abbrev pub EndsAs : {D : Type 0} → (D → Call → Bool → D → Type 0) → D → D → OpenFault → Type 0
EndsAs gives old new Failed = Ends gives old new
EndsAs gives old new (BadJournal at) = Looks gives old new
EndsAs gives old new OutOfMemory = Looks gives old new ⊎ HasNoRoom gives old new

-- the calls behind an answer: none failed where it is Ok
abbrev pub Opens : {D T : Type 0} → (D → Call → Bool → D → Type 0) → D → D → Result T OpenFault → Type 0
Opens gives old new (Ok x) = Goes gives old new
Opens gives old new (Err fault) = EndsAs gives old new fault

-- the same where nothing is written before the answer
abbrev pub LooksInto : {D T : Type 0} → (D → Call → Bool → D → Type 0) → D → D → Result T OpenFault → Type 0
LooksInto gives old new (Ok x) = Looks gives old new
LooksInto gives old new (Err fault) = EndsAs gives old new fault

-- what is written as a journal is opened: the head of one that is only begun, and 0 over what stands behind the records of another
pub record IsCleaning (file : List ℕ) (records : List (List ℕ)) (at : ℕ) (written : List ℕ) : Type 0 where
  pub within : at ≤ length file
  pub few : length written ≤ length file + length head
  pub reaches : length head + length (entries records) ≤ max (length file) (at + length written)
  pub cleans : IsClean (overwritten at written file) records
  pub keeps : (image : List ℕ) → Mixed at written file image → Holds image records
