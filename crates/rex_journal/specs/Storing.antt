-- A journal on a disk in memory, as a store whose failures are armed.
use Rattle.std.specs.Prelude.{◌≡◌, ◌==◌, ◌&&◌, ◌+◌, ℕ, Bool, true, false, not, List, [], ◌∷◌, Option, Some, None}
use Rattle.rex_disk.specs.Memory.{DiskValue}
use Rattle.rex_disk.specs.Record.{are_within}
use Rattle.rex_disk.specs.declared.plan.Plan.{Plan}
use Rattle.rex_disk.specs.declared.plan.Plan.TheVariants.{Write, Sync}
use Rattle.rex_journal.specs.Keeping.{JournalValue}
use Rattle.rex_traits.specs.Stores.{StoreValue}
use Rattle.rex_traits.specs.declared.mem_keeper.Fate.{Fate}
use Rattle.rex_traits.specs.declared.mem_keeper.Fate.TheVariants.{Kept, Lost}

-- a record is lost where the first write of its append fails, and kept where the second sync does
abbrev pub plan_of : Fate → Plan
plan_of Lost = Write
plan_of Kept = Sync 2

-- the arming that a planned failure is
abbrev pub armed_by : Option Plan → Option Fate
armed_by None = None
armed_by (Some Write) = Some Lost
armed_by (Some (Sync writes)) = Some Kept

-- the planned failure is one that arming plans
abbrev pub is_of_fate : Option Plan → Bool
is_of_fate None = true
is_of_fate (Some Write) = true
is_of_fate (Some (Sync writes)) = writes == 2

abbrev pub is_empty : List ℕ → Bool
is_empty [] = true
is_empty (n ∷ ns) = false

-- no call of the disk is named, what is planned is what arming plans, the disk meets its model, and what it reads is known
abbrev pub fails_as_armed : JournalValue DiskValue → Bool
fails_as_armed k = is_empty k.disk.failing && (is_of_fate k.disk.plan && (are_within k.disk.first k.disk.done && not k.unsure))

-- what contracts see of it as a store
abbrev pub journal_value : JournalValue DiskValue → StoreValue
journal_value k = record { records = k.records; armed = armed_by k.disk.plan; faults = k.disk.faults + k.refused; broken = k.broken; as_armed = fails_as_armed k }

-- a journal that was to be reopened with nothing planned: its list is the same, what its disk reads is known, and no call of its disk is named
pub record IsSpared (old new : JournalValue DiskValue) : Type 0 where
  pub records : new.records ≡ old.records
  pub sure : new.unsure ≡ false
  pub refused : new.refused ≡ old.refused
  pub faults : new.disk.faults ≡ old.disk.faults
  pub failing : new.disk.failing ≡ old.disk.failing
  pub model : are_within new.disk.first new.disk.done ≡ are_within old.disk.first old.disk.done
