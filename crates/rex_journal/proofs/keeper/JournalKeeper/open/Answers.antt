use Rattle.std.proofs.Common.{sym, ap, subst}
use Rattle.rex_journal.specs.Keeping.{JournalValue}
use Rattle.rex_journal.proofs.Settled.{LeavesRecords}
use Rattle.rex_journal.proofs.keeper.JournalKeeper.open.Goals as goal

pub returns-in-Ok-clause-any_moment : goal.returns-in-Ok-clause-any_moment
returns-in-Ok-clause-any_moment g c =
    let same = ap (λ (k : JournalValue g.row.D.Denot). k.disk) c.unopened-keeper.ensures in
    subst (λ d. LeavesRecords g.D.Disk.meets g.D.Disk.may_leave g.D.Disk.moment g.D.Disk.left_since d c.reopen.new.self.disk) same c.reopen.ensures.any_moment

pub returns-in-Err-clause-any_moment : goal.returns-in-Err-clause-any_moment
returns-in-Err-clause-any_moment g c =
    let same = ap (λ (k : JournalValue g.row.D.Denot). k.disk) c.unopened-keeper.ensures in
    let since = subst (λ d. LeavesRecords g.D.Disk.meets g.D.Disk.may_leave g.D.Disk.moment g.D.Disk.left_since d c.reopen.new.self.disk) same c.reopen.ensures.any_moment in
    subst (λ d. LeavesRecords g.D.Disk.meets g.D.Disk.may_leave g.D.Disk.moment g.D.Disk.left_since c.args.disk d) (sym c.into_disk.ensures) since
