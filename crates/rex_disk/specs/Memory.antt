-- What a disk in memory is, and which of its calls fail.
use Rattle.std.specs.Prelude.{◌≡◌, ℕ, zero, suc, ◌==◌, ◌||◌, Bool, true, false, List, [], Option, Some, None}
use Rattle.std.specs.List.{list_any}
use Rattle.rex_disk.specs.Calls.{Call}
use Rattle.rex_disk.specs.Calls.Call.{Reads, Writes, Syncs, Reserves}
use Rattle.rex_disk.specs.Record.{Done, noted}
use Rattle.rex_disk.specs.declared.plan.Plan.{Plan}
use Rattle.rex_disk.specs.declared.plan.Plan.TheVariants.{Write, Sync}
use Rattle.rex_traits.specs.Causes.{one_more}

-- the bytes that it was made with, its writes and syncs, the newest first, how many calls were made, which of them fail by their numbers, the failure that is planned, how many calls failed, and the reserved room
pub record DiskValue : Type 0 where
  pub first : List ℕ
  pub done : List Done
  pub made : ℕ
  pub failing : List ℕ
  pub plan : Option Plan
  pub faults : ℕ
  pub calls_left : ℕ
  pub bytes_left : ℕ

-- a disk on which nothing was done yet
abbrev pub new_disk : List ℕ → List ℕ → DiskValue
new_disk bytes failing = record { first = bytes; done = []; made = 0; failing = failing; plan = None; faults = 0; calls_left = 0; bytes_left = 0 }

-- a write fails where the next one is planned to
abbrev pub write_fails : Option Plan → Bool
write_fails None = false
write_fails (Some Write) = true
write_fails (Some (Sync writes)) = false

-- a sync fails where it is planned to after no more writes
abbrev pub sync_fails : Option Plan → Bool
sync_fails None = false
sync_fails (Some Write) = false
sync_fails (Some (Sync zero)) = true
sync_fails (Some (Sync (suc writes))) = false

-- the planned failure is that of this call
abbrev pub fails_as_planned : Option Plan → Call → Bool
fails_as_planned plan (Reads at n) = false
fails_as_planned plan (Writes at bytes) = write_fails plan
fails_as_planned plan Syncs = sync_fails plan
fails_as_planned plan (Reserves calls bytes) = false

-- what is planned after a write: no failure once it has come, and one write fewer before that of a sync
abbrev pub plan_after_write : Option Plan → Option Plan
plan_after_write None = None
plan_after_write (Some Write) = None
plan_after_write (Some (Sync zero)) = Some (Sync zero)
plan_after_write (Some (Sync (suc writes))) = Some (Sync writes)

-- and after a sync
abbrev pub plan_after_sync : Option Plan → Option Plan
plan_after_sync None = None
plan_after_sync (Some Write) = Some Write
plan_after_sync (Some (Sync zero)) = None
plan_after_sync (Some (Sync (suc writes))) = Some (Sync (suc writes))

-- what is still planned after this call
abbrev pub plan_after : Option Plan → Call → Option Plan
plan_after plan (Reads at n) = plan
plan_after plan (Writes at bytes) = plan_after_write plan
plan_after plan Syncs = plan_after_sync plan
plan_after plan (Reserves calls bytes) = plan

-- a call fails where its number is named or the plan says so, and is noted where it is a write or a sync
pub record Follows (old : DiskValue) (call : Call) (failed : Bool) (new : DiskValue) : Type 0 where
  pub numbered : new.made ≡ one_more old.made
  pub fails : failed ≡ (list_any (λ number. number == new.made) old.failing || fails_as_planned old.plan call)
  pub planned : new.plan ≡ plan_after old.plan call
  pub recorded : new.done ≡ noted call failed old.done
  pub same_first : new.first ≡ old.first
  pub same_failing : new.failing ≡ old.failing

-- room is all that is reserved
pub record Reserved (old new : DiskValue) : Type 0 where
  pub same : new ≡ record old { calls_left = new.calls_left; bytes_left = new.bytes_left }

-- what a call may do to a disk in memory
abbrev pub DoesCall : DiskValue → Call → Bool → DiskValue → Type 0
DoesCall old (Reads at n) failed new = Follows old (Reads at n) failed new
DoesCall old (Writes at bytes) failed new = Follows old (Writes at bytes) failed new
DoesCall old Syncs failed new = Follows old Syncs failed new
DoesCall old (Reserves calls bytes) failed new = Reserved old new
