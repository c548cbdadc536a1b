use Rattle.std.proofs.Common.{◌≡◌, subst, sym}
use Rattle.rexnode_command.specs.Command.{CommandValue}
use Rattle.rex_process.specs.Starting.{HasStarted}
use Rattle.rexnode_cli.proofs.Ran.{has_served, not_started}
use Rattle.rexnode_cli.proofs.running.run_process.Goals as goal

pub serve-ended-requires-clause-settled : goal.serve-ended-requires-clause-settled
serve-ended-requires-clause-settled g c = subst (λ (k : g.row.K.Denot). g.K.Flush.kept k ≡ g.K.Keeper.records k) (sym c.in-Ok.ensures.started.keeper_is) c.requires.settled

pub returns-in-Ok-clause-runs : goal.returns-in-Ok-clause-runs
returns-in-Ok-clause-runs g c =
    has_served g.K.Keeper.records g.K.Flush.kept g.K.Keeper.faults c.args.svc.now c.args.command.now.id c.args.command.now.nodes c.args.command.now.seed c.args.keeper
    c.in-Ok.process c.serve-ended.new.process c.serve-ended.result
    c.ended_status.result c.stop.result (g.W.Sink.taken c.args.sink.now) (g.W.Sink.taken c.serve-ended.new.sink) (g.S.Source.given c.args.source.now)
    (g.S.Source.given c.serve-ended.new.source) c.in-Ok.ensures.process
    (subst (λ (o : CommandValue). HasStarted g.K.Keeper.records c.args.svc.now o.id o.nodes o.seed c.args.keeper c.in-Ok.process) c.command.view_is c.in-Ok.ensures.started) c.ended_status.ensures c.stop.ensures c.serve-ended.ensures.served

pub returns-in-Err-clause-runs : goal.returns-in-Err-clause-runs
returns-in-Err-clause-runs g c =
    not_started g.K.Keeper.records g.K.Flush.kept g.K.Keeper.faults c.args.svc.now c.args.command.now.id c.args.command.now.nodes c.args.command.now.seed c.args.keeper
    c.in-Err.not_started.fault c.start_status.result c.in-Err.not_started.keeper
    (g.W.Sink.taken c.args.sink.now) (g.S.Source.given c.args.source.now) c.in-Err.ensures.fault c.start_status.ensures c.in-Err.ensures.back
