use Rattle.std.proofs.Common.{◌≡◌, true, false, List, None, Some, ◌<◌, IsTrue, ℕ, sym, ap, subst, ◌∙◌}
use Rattle.rex_traits.specs.Causes.{Rose}
use Rattle.rex_wal.specs.Keeping.{AllStandFor}
use Rattle.rexnode_cli.specs.Running.{identity_of}
use Rattle.rexnode_cli.proofs.Kept.{broken_rose, disk_rose, same_model, torn_by}
use Rattle.rexnode_cli.proofs.Ran.{has_opened, not_opened}
use Rattle.rexnode_cli.proofs.running.node_main.Goals as goal

pub returns-in-Ok-clause-runs : goal.returns-in-Ok-clause-runs
returns-in-Ok-clause-runs g c =
    has_opened g.D.Disk.meets g.D.Disk.seen g.D.Disk.may_leave g.D.Disk.gives g.D.Disk.faults c.args.loaded.now.service
    (identity_of c.args.command.now c.args.loaded.now.digest) c.args.disk c.in-Ok.keeper c.run_owned-ran.result.back c.run_owned-ran.result.status c.into_disk.result
    (g.W.Sink.taken c.args.sink.now) (g.W.Sink.taken c.run_owned-ran.new.sink) (g.S.Source.given c.args.source.now) (g.S.Source.given c.run_owned-ran.new.source)
    c.in-Ok.ensures.holds c.in-Ok.ensures.safe
    c.in-Ok.ensures.model c.in-Ok.ensures.calls c.into_disk.ensures.disk
    (subst (λ (d : g.row.D.Denot). IsTrue (g.D.Disk.meets d) → c.run_owned-ran.result.back.broken ≡ false → AllStandFor (g.D.Disk.may_leave d) c.run_owned-ran.result.back.records None) (sym c.into_disk.ensures.disk)
    c.into_disk.ensures.safe)
    (subst (λ (d : g.row.D.Denot). IsTrue (g.D.Disk.meets d) → c.run_owned-ran.result.back.broken ≡ true → (lost : List ℕ) × AllStandFor (g.D.Disk.may_leave d) c.run_owned-ran.result.back.records (Some lost)) (sym c.into_disk.ensures.disk)
    (λ meets broken. torn_by g.D.Disk.gives g.D.Disk.meets g.D.Disk.may_leave g.D.Disk.faults c.in-Ok.keeper c.run_owned-ran.result.back c.in-Ok.ensures.whole c.run_owned-ran.ensures.keeper broken meets))
    (λ broken. subst (λ (d : g.row.D.Denot). g.D.Disk.faults c.args.disk < g.D.Disk.faults d) (sym c.into_disk.ensures.disk)
    (subst (λ (count : ℕ). count < g.D.Disk.faults c.run_owned-ran.result.back.disk) c.in-Ok.ensures.cause
    (broken_rose g.D.Disk.gives g.D.Disk.meets g.D.Disk.may_leave g.D.Disk.faults c.in-Ok.keeper c.run_owned-ran.result.back c.in-Ok.ensures.whole c.run_owned-ran.ensures.keeper broken)))
    c.run_owned-ran.ensures.runs

pub returns-in-Ok-clause-model : goal.returns-in-Ok-clause-model
returns-in-Ok-clause-model g c =
    ap g.D.Disk.meets c.into_disk.ensures.disk
    ∙ (same_model g.D.Disk.gives g.D.Disk.meets g.D.Disk.may_leave g.D.Disk.faults c.in-Ok.keeper c.run_owned-ran.result.back c.run_owned-ran.ensures.keeper ∙ c.in-Ok.ensures.model)

pub returns-in-Err-clause-runs : goal.returns-in-Err-clause-runs
returns-in-Err-clause-runs g c =
    not_opened g.D.Disk.meets g.D.Disk.seen g.D.Disk.may_leave g.D.Disk.gives g.D.Disk.faults c.args.loaded.now.service
    (identity_of c.args.command.now c.args.loaded.now.digest) c.args.disk c.in-Err.refused.fault
    c.open_status.result c.in-Err.refused.disk (g.W.Sink.taken c.args.sink.now) (g.S.Source.given c.args.source.now) c.in-Err.ensures.bad
    c.in-Err.ensures.unread c.in-Err.ensures.cause c.in-Err.ensures.calls c.open_status.ensures

pub returns-in-Ok-clause-failed : goal.returns-in-Ok-clause-failed
returns-in-Ok-clause-failed g c = λ failed.
    subst (λ (d : g.row.D.Denot). Rose (g.D.Disk.faults c.args.disk) (g.D.Disk.faults d)) (sym c.into_disk.ensures.disk)
    (subst (λ (count : ℕ). Rose count (g.D.Disk.faults c.run_owned-ran.result.back.disk)) c.in-Ok.ensures.cause
    (disk_rose g.D.Disk.gives g.D.Disk.meets g.D.Disk.may_leave g.D.Disk.faults c.in-Ok.keeper c.run_owned-ran.result.back c.in-Ok.ensures.whole c.run_owned-ran.ensures.keeper (c.run_owned-ran.ensures.failed failed)))
