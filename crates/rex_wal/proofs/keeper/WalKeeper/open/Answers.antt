use Rattle.std.proofs.Common.{None}
use Rattle.rex_wal.proofs.Settled.{settled_stands}
use Rattle.rex_wal.proofs.keeper.WalKeeper.open.Goals as goal

pub returns-in-Ok-clause-safe : goal.returns-in-Ok-clause-safe
returns-in-Ok-clause-safe g c = λ meets. settled_stands g.D.Disk.meets g.D.Disk.seen g.D.Disk.may_leave c.recover.new.disk c.in-Ok.found.records.items c.in-Ok.found.end None c.in-Ok.ensures.settled meets
