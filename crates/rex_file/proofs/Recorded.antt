-- What one more write or sync adds to the record of a file.
use Rattle.std.proofs.Common.{◌≡◌, Bool, true, ◌∷◌, length}
use Rattle.rex_disk.specs.Record.{Done, are_within}
use Rattle.rex_disk.specs.Record.Done.{Synced}
use Rattle.rex_disk.specs.Stops.{Elapses, NoMore}
use Rattle.rex_file.specs.FileCalls.{FileValue}
use Rattle.rex_file.specs.Mixing.{MixedAfter, MixedSince}
use Rattle.rex_file.specs.MixingLaws.{goes_on, sync_no_more}

pub time_goes_on : (old new : FileValue) (one : Done) → new.first ≡ old.first → new.done ≡ one ∷ old.done → Elapses (length old.done) (length new.done) (MixedSince old.first old.done) (MixedSince new.first new.done) (MixedAfter new.first new.done)
time_goes_on old new one f d = rw (f, d) (goes_on old.first old.done one)

pub no_more_left : (old new : FileValue) (failed : Bool) → new.first ≡ old.first → new.done ≡ Synced failed ∷ old.done → are_within old.first old.done ≡ true → NoMore (MixedAfter old.first old.done) (MixedAfter new.first new.done)
no_more_left old new failed f d within = rw (f, d) (sync_no_more old.first old.done failed within)
