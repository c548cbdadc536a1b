-- With which status the program ends.
use Rattle.std.specs.Prelude.{ℕ}
use Rattle.rex_journal.specs.declared.fault.OpenFault.{OpenFault}
use Rattle.rex_journal.specs.declared.fault.OpenFault.TheVariants as open_fault
use Rattle.rex_identity.specs.declared.fault.ClaimFault.{ClaimFault}
use Rattle.rex_identity.specs.declared.fault.ClaimFault.TheVariants as claim_fault
use Rattle.rex_process.specs.declared.starting.StartFault.{StartFault}
use Rattle.rex_process.specs.declared.starting.StartFault.TheVariants as start_fault
use Rattle.rex_serve.specs.declared.serving.Ended.{Ended}
use Rattle.rex_serve.specs.declared.serving.Ended.TheVariants as ended
use Rattle.rexnode_cli.specs.declared.statuses.TheConstants.{READ_FAILED, WRITE_FAILED, OUT_OF_MEMORY, BAD_JOURNAL, DISK_FAILED, FRAME_TOO_LONG}

-- where the journal isn't opened
abbrev pub open_status : OpenFault → ℕ
open_status open_fault.Failed = DISK_FAILED
open_status (open_fault.BadJournal at) = BAD_JOURNAL
open_status open_fault.OutOfMemory = OUT_OF_MEMORY

-- where it is another's, or its first record wasn't kept
abbrev pub claim_status : ClaimFault → ℕ
claim_status claim_fault.Foreign = BAD_JOURNAL
claim_status claim_fault.Failed = DISK_FAILED
claim_status claim_fault.OutOfMemory = OUT_OF_MEMORY

-- where the node doesn't come up with its records
abbrev pub start_status : StartFault → ℕ
start_status (start_fault.BadRecord number) = BAD_JOURNAL
start_status (start_fault.Unfit instance) = BAD_JOURNAL
start_status start_fault.OutOfMemory = OUT_OF_MEMORY

-- how serving ended
abbrev pub ended_status : Ended → ℕ
ended_status ended.Over = 0
ended_status ended.TooOften = READ_FAILED
ended_status ended.Unread = READ_FAILED
ended_status ended.TooLong = FRAME_TOO_LONG
ended_status ended.Down = DISK_FAILED
ended_status ended.Unwritten = WRITE_FAILED
ended_status ended.OutOfMemory = OUT_OF_MEMORY
