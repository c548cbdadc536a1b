use Rattle.std.proofs.Common.{inl, inr, refl, ap, ◌∙◌}
use Rattle.rex_wal.specs.Keeping.{WalValue}
use Rattle.rexnode_cli.proofs.tracing.trace_main.Goals as goal

pub returns-in-Ok-clause-traces : goal.returns-in-Ok-clause-traces
returns-in-Ok-clause-traces g c =
    inl (record {
      journal = c.in-Ok.keeper;
      holds = c.in-Ok.ensures.holds;
      safe = c.in-Ok.ensures.safe;
      met = c.in-Ok.ensures.model;
      opened = c.in-Ok.ensures.calls;
      runs = (c.trace_owned-traced.ensures.traces, c.into_disk.ensures.disk ∙ ap (λ (j : WalValue g.row.D.Denot). j.disk) c.trace_owned-traced.ensures.keeper);
    })

pub returns-in-Err-clause-traces : goal.returns-in-Err-clause-traces
returns-in-Err-clause-traces g c =
    inr (
      record {
        fault = c.in-Err.refused.fault;
        cause = c.in-Err.ensures.bad;
        kept = c.in-Err.ensures.unread;
        counted = c.in-Err.ensures.cause;
        ended = c.in-Err.ensures.calls;
        told = c.open_status.ensures;
      },
      refl,
    )
