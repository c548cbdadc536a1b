use Rattle.std.proofs.Common.{inl, inr, ap, length, ◌∙◌}
use Rattle.rexnode_cli.proofs.tracing.trace_owned.Goals as goal

pub returns-in-Ok-clause-traces : goal.returns-in-Ok-clause-traces
returns-in-Ok-clause-traces g c =
    inr (record {
      some = λ e. c.if-len-eq0.false (c.len.ensures ∙ ap length e);
      claims = inl (record { grouped = c.in-Ok.owned; own = c.in-Ok.ensures.owned; runs = c.trace_process-traced.ensures.traces });
    })
