use Rattle.std.proofs.Common.{◌≡◌, false, IsTrue, None, subst}
use Rattle.rex_wal.specs.Keeping.{AllStandFor, WalValue}
use Rattle.rex_wal.proofs.Settled.{settled_stands}
use Rattle.rex_wal.proofs.keeper.WalKeeper.into_disk.Goals as goal

pub returns-clause-safe : goal.returns-clause-safe
returns-clause-safe g c =
    subst (λ (j : WalValue g.row.D.Denot). IsTrue (g.D.Disk.meets j.disk) → j.broken ≡ false → AllStandFor (g.D.Disk.may_leave j.disk) j.records None) c.self.view_is
    (λ meets whole. settled_stands g.D.Disk.meets g.D.Disk.seen g.D.Disk.may_leave c.self.inside.disk c.self.inside.records.items c.self.inside.end None (c.self.invariant whole) meets)
