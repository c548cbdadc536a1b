use Rattle.std.proofs.Common.{IsTrue, List, ℕ, [], ◌∷◌, sym, ◌∙◌, subst}
use Rattle.rex_disk.specs.Calls.Call.{Syncs, Writes}
use Rattle.rex_wal.specs.Journal.{Holds}
use Rattle.std.proofs.lemmas.Result.{err_from_is_err_and}
use Rattle.rex_wal.proofs.BytesLaws.{bad_none}
use Rattle.rex_journal.proofs.Making.{goes_then, looks_go}
use Rattle.rex_wal.proofs.Calls.{opens_failed, opens_short, opens_unwritten, write_ends}
use Rattle.rex_wal.proofs.Making.{found_holds}
use Rattle.rex_wal.proofs.Settled.{open_leaves}
use Rattle.rex_wal.proofs.file.recover.Goals as goal

pub returns-in_err-write_through-clause-any_moment : goal.returns-in_err-write_through-clause-any_moment
returns-in_err-write_through-clause-any_moment g c = λ records pending meets all.
    let still = subst IsTrue (sym c.read_synced.ensures.model) meets in
    open_leaves g.D.Disk.meets g.D.Disk.seen g.D.Disk.may_leave c.args.disk.now c.read_synced.new.disk c.write_through.new.disk c.in_ok-found.found.records.items records c.in_ok-found.found.end c.in_ok-written.written.at c.in_ok-found.found.is_begun _ _ _ _ _ pending g.D.Disk.moment g.D.Disk.left_since
    c.deref.ensures.value c.deref-2.ensures.value c.deref-3.ensures.value (c.in_ok-bytes.ensures.bytes meets) (c.read_synced.ensures.seen meets) c.in_ok-found.ensures.found c.in_ok-written.ensures (g.met.D.Disk.leaves_seen c.args.disk.now meets) all
    (c.read_synced.ensures.any_moment meets) (c.write_through.ensures.any_moment still (c.in_ok-bytes.ensures.durable meets))

pub returns-in_err-found-clause-calls : goal.returns-in_err-found-clause-calls
returns-in_err-found-clause-calls g c = opens_unwritten g.D.Disk.gives c.args.disk.now c.read_synced.new.disk c.from_residual-in_err-found.result _ c.from_residual-in_err-found.ensures.1 c.in_ok-bytes.ensures.calls c.in_err-found.ensures.whole

pub returns-in_err-written-clause-calls : goal.returns-in_err-written-clause-calls
returns-in_err-written-clause-calls g c = opens_short g.D.Disk.gives c.args.disk.now c.read_synced.new.disk c.from_residual-in_err-written.result c.from_residual-in_err-written.ensures.1 c.in_ok-bytes.ensures.calls

pub returns-in_err-write_through-clause-calls : goal.returns-in_err-write_through-clause-calls
returns-in_err-write_through-clause-calls g c = opens_failed g.D.Disk.gives c.args.disk.now c.write_through.new.disk c.from_residual-in_err-write_through.result c.from_residual-in_err-write_through.ensures.1
    (write_ends g.D.Disk.gives c.in_ok-written.written.at c.deref-3.result.now c.args.disk.now c.read_synced.new.disk c.write_through.new.disk c.in_ok-bytes.ensures.calls c.in_err-write_through.ensures.calls)

pub returns-clause-any_moment : goal.returns-clause-any_moment
returns-clause-any_moment g c = λ records pending meets all.
    let still = subst IsTrue (sym c.read_synced.ensures.model) meets in
    open_leaves g.D.Disk.meets g.D.Disk.seen g.D.Disk.may_leave c.args.disk.now c.read_synced.new.disk c.write_through.new.disk c.in_ok-found.found.records.items records c.in_ok-found.found.end c.in_ok-written.written.at c.in_ok-found.found.is_begun _ _ _ _ _ pending g.D.Disk.moment g.D.Disk.left_since
    c.deref.ensures.value c.deref-2.ensures.value c.deref-3.ensures.value (c.in_ok-bytes.ensures.bytes meets) (c.read_synced.ensures.seen meets) c.in_ok-found.ensures.found c.in_ok-written.ensures (g.met.D.Disk.leaves_seen c.args.disk.now meets) all
    (c.read_synced.ensures.any_moment meets) (c.write_through.ensures.any_moment still (c.in_ok-bytes.ensures.durable meets))

pub returns-clause-calls : goal.returns-clause-calls
returns-clause-calls g c = goes_then g.D.Disk.gives c.args.disk.now c.read_synced.new.disk c.write_through.new.disk (looks_go g.D.Disk.gives c.args.disk.now c.read_synced.new.disk c.in_ok-bytes.ensures.calls) (Writes c.in_ok-written.written.at c.deref-3.result.now ∷ Syncs ∷ [], c.in_ok-write_through.ensures.calls)

pub returns-in_err-write_through-clause-unread : goal.returns-in_err-write_through-clause-unread
returns-in_err-write_through-clause-unread g c = λ meets.
    let is = c.deref.ensures.value ∙ c.in_ok-bytes.ensures.bytes meets in
    let holds = subst (λ (file : List ℕ). Holds file c.in_ok-found.found.records.items) is (found_holds c.deref.result.now c.in_ok-found.found.records.items c.in_ok-found.found.end c.in_ok-found.found.is_begun c.in_ok-found.ensures.found) in
    let failed = err_from_is_err_and c.from_residual-in_err-write_through.result c.from_residual-in_err-write_through.ensures.1 in
    rw (failed.1, failed.2) (λ at bad. absurd (bad_none (g.D.Disk.seen c.args.disk.now) at c.in_ok-found.found.records.items bad holds))
