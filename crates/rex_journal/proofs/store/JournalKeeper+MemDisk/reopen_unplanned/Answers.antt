use Rattle.rex_disk.specs.Memory.{DiskValue}
use Rattle.rex_journal.specs.Keeping.{JournalValue}
use Rattle.rex_journal.proofs.Reopening.{is_memory, spared_is}
use Rattle.rex_journal.proofs.store.JournalKeeper+MemDisk.reopen_unplanned.Goals as goal

pub returns-clause-spared : goal.returns-clause-spared
returns-clause-spared c =
    let old : JournalValue DiskValue = record { disk = c.self.inside.disk; records = c.self.inside.records.items; broken = c.self.inside.broken; unsure = c.self.inside.unsure; refused = c.self.inside.refused } in
    rw (← c.self.view_is) (λ always.
    spared_is old c.self.inside.gate c.self.invariant.front always c.set_plan.new.self c.set_plan.ensures c.reopen.result c.reopen.new.self c.reopen.ensures.holds c.reopen.ensures.whole c.reopen.ensures.left c.reopen.ensures.sure c.reopen.ensures.bad c.reopen.ensures.calls c.reopen.ensures.cause c.reopen.ensures.model)

pub returns-clause-memory : goal.returns-clause-memory
returns-clause-memory c =
    let old : JournalValue DiskValue = record { disk = c.self.inside.disk; records = c.self.inside.records.items; broken = c.self.inside.broken; unsure = c.self.inside.unsure; refused = c.self.inside.refused } in
    rw (← c.self.view_is) (λ always.
    is_memory old c.self.inside.gate c.self.invariant.front always c.set_plan.new.self c.set_plan.ensures c.reopen.result c.reopen.new.self.disk c.reopen.ensures.bad c.reopen.ensures.calls)
