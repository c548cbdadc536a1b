use Rattle.rex_file.proofs.Recorded.{time_goes_on}
use Rattle.rex_file.proofs.file_disk.FileDiskDisk.write.Goals as goal

pub returns-then-write_bytes-clause-time : goal.returns-then-write_bytes-clause-time
returns-then-write_bytes-clause-time c = λ meets. time_goes_on c.args.self.now c.write_bytes.new.self _ c.write_bytes.ensures.notes.same_first c.write_bytes.ensures.notes.recorded

pub returns-else-write_bytes-clause-time : goal.returns-else-write_bytes-clause-time
returns-else-write_bytes-clause-time c = λ meets. time_goes_on c.args.self.now c.write_bytes.new.self _ c.write_bytes.ensures.notes.same_first c.write_bytes.ensures.notes.recorded
