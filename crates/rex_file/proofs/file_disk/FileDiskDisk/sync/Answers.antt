use Rattle.rex_file.proofs.Recorded.{no_more_left, time_goes_on}
use Rattle.rex_file.proofs.file_disk.FileDiskDisk.sync.Goals as goal

pub returns-then-sync_bytes-clause-time : goal.returns-then-sync_bytes-clause-time
returns-then-sync_bytes-clause-time c = λ meets. time_goes_on c.args.self.now c.sync_bytes.new.self _ c.sync_bytes.ensures.notes.same_first c.sync_bytes.ensures.notes.recorded

pub returns-else-sync_bytes-clause-stop : goal.returns-else-sync_bytes-clause-stop
returns-else-sync_bytes-clause-stop c = λ meets. no_more_left c.args.self.now c.sync_bytes.new.self _ c.sync_bytes.ensures.notes.same_first c.sync_bytes.ensures.notes.recorded meets

pub returns-else-sync_bytes-clause-time : goal.returns-else-sync_bytes-clause-time
returns-else-sync_bytes-clause-time c = λ meets. time_goes_on c.args.self.now c.sync_bytes.new.self _ c.sync_bytes.ensures.notes.same_first c.sync_bytes.ensures.notes.recorded
