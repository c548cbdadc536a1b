use Rattle.std.proofs.Common.{inl, inr, length}
use Rattle.rex_disk.specs.Calls.Call.{Reads, Syncs, Reserves}
use Rattle.rex_journal.proofs.Making.{look_ends, looks_failed, looks_one, looks_short, looks_then}
use Rattle.rex_journal.proofs.file.read_synced.Goals as goal

pub returns-in_err-sync-clause-calls : goal.returns-in_err-sync-clause-calls
returns-in_err-sync-clause-calls g c = looks_failed g.D.Disk.gives c.args.disk.now c.sync.new.self c.from_residual-in_err-sync.result c.from_residual-in_err-sync.ensures.1
    (look_ends g.D.Disk.gives Syncs c.args.disk.now c.reserve.new.self c.sync.new.self (looks_one g.D.Disk.gives (Reserves 3 1) c.args.disk.now c.reserve.new.self tt c.in_ok-reserve.ensures.gives) tt tt c.in_err-sync.ensures.gives)

pub returns-in_err-read-clause-calls : goal.returns-in_err-read-clause-calls
returns-in_err-read-clause-calls g c = looks_failed g.D.Disk.gives c.args.disk.now c.read.new.self c.from_residual-in_err-read.result c.from_residual-in_err-read.ensures.1
    (look_ends g.D.Disk.gives (Reads 0 (length c.deref_mut.result.now)) c.args.disk.now c.sync.new.self c.read.new.self
    (looks_then g.D.Disk.gives c.args.disk.now c.reserve.new.self c.sync.new.self (looks_one g.D.Disk.gives (Reserves 3 1) c.args.disk.now c.reserve.new.self tt c.in_ok-reserve.ensures.gives) (looks_one g.D.Disk.gives Syncs c.reserve.new.self c.sync.new.self tt c.in_ok-sync.ensures.gives))
    tt tt c.in_err-read.ensures.gives)

pub returns-clause-calls : goal.returns-clause-calls
returns-clause-calls g c = looks_then g.D.Disk.gives c.args.disk.now c.sync.new.self c.read.new.self
    (looks_then g.D.Disk.gives c.args.disk.now c.reserve.new.self c.sync.new.self (looks_one g.D.Disk.gives (Reserves 3 1) c.args.disk.now c.reserve.new.self tt c.in_ok-reserve.ensures.gives) (looks_one g.D.Disk.gives Syncs c.reserve.new.self c.sync.new.self tt c.in_ok-sync.ensures.gives))
    (looks_one g.D.Disk.gives (Reads 0 (length c.deref_mut.result.now)) c.sync.new.self c.read.new.self tt c.in_ok-read.ensures.gives)

pub returns-in_err-reserve-clause-calls : goal.returns-in_err-reserve-clause-calls
returns-in_err-reserve-clause-calls g c = looks_short g.D.Disk.gives c.args.disk.now c.reserve.new.self c.from_residual.result c.from_residual.ensures.1 (inr (3, 1, c.in_err-reserve.ensures.gives))

pub returns-in_err-bytes-clause-calls : goal.returns-in_err-bytes-clause-calls
returns-in_err-bytes-clause-calls g c = looks_short g.D.Disk.gives c.args.disk.now c.sync.new.self c.from_residual-in_err-bytes.result c.from_residual-in_err-bytes.ensures.1
    (inl (looks_then g.D.Disk.gives c.args.disk.now c.reserve.new.self c.sync.new.self (looks_one g.D.Disk.gives (Reserves 3 1) c.args.disk.now c.reserve.new.self tt c.in_ok-reserve.ensures.gives) (looks_one g.D.Disk.gives Syncs c.reserve.new.self c.sync.new.self tt c.in_ok-sync.ensures.gives)))
