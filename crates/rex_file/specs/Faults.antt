-- Which fault comes of what the system says.
use Rattle.std.specs.Prelude.{◌≡◌, ◌≢◌}
use Rattle.std.specs.IoError.{error_kind}
use Rattle.std.specs.declared.io.Error.{Error}
use Rattle.std.specs.declared.io.ErrorKind.TheVariants as kind
use Rattle.std.specs.declared.fs.locks.TryLockError.{TryLockError}
use Rattle.std.specs.declared.fs.locks.TryLockError.TheVariants as lock
use Rattle.rex_file.specs.declared.file_fault.FileFault.{FileFault}
use Rattle.rex_file.specs.declared.file_fault.FileFault.TheVariants.{Locked, Failed, OutOfMemory}

-- want of memory, or an error that is handed on
pub record IsFaultOf (error : Error) (fault : FileFault) : Type 0 where
  pub memory : error_kind error ≡ kind.OutOfMemory → fault ≡ OutOfMemory
  pub other : error_kind error ≢ kind.OutOfMemory → fault ≡ Failed error

-- where one would have to wait for the lock another open holds it, and else it is the error's fault
abbrev pub IsLockFault : TryLockError → FileFault → Type 0
IsLockFault (lock.Error error) fault = IsFaultOf error fault
IsLockFault lock.WouldBlock fault = fault ≡ Locked
