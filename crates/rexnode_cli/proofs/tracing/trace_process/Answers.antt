use Rattle.std.proofs.Common.{inl, inr, refl, subst}
use Rattle.rexnode_command.specs.Command.{CommandValue}
use Rattle.rex_process.specs.Starting.{HasStarted}
use Rattle.rexnode_cli.proofs.tracing.trace_process.Goals as goal

pub returns-in-Ok-clause-traces : goal.returns-in-Ok-clause-traces
returns-in-Ok-clause-traces g c =
    inl (record {
      first = c.in-Ok.process;
      process = c.in-Ok.ensures.process;
      started = subst (λ (o : CommandValue). HasStarted g.K.Keeper.records c.args.svc.now o.id o.nodes o.seed c.args.keeper c.in-Ok.process) c.command.view_is c.in-Ok.ensures.started;
      does = c.write_trace.ensures.written;
    })

pub returns-in-Err-clause-traces : goal.returns-in-Err-clause-traces
returns-in-Err-clause-traces g c = inr (record { fault = c.in-Err.not_started.fault; cause = c.in-Err.ensures.fault; told = c.start_status.ensures }, refl)
