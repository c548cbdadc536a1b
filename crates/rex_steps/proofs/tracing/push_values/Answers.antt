use Rattle.std.proofs.Common.{◌+◌, ◌++◌, ap, ◌∙◌}
use Rattle.rex_report.specs.Trace.{delta_text}
use Rattle.rex_cluster.specs.Values.{Value, delta_of}
use Rattle.rex_steps.proofs.Traces.{values_more}
use Rattle.rex_steps.proofs.tracing.push_values.Goals as goal

pub loop-place-preserved : goal.loop-place-preserved
loop-place-preserved c =
    values_more c.args.service.now c.args.values.now c.loop-place.place c.index-values-place.result c.args.out.now.items c.loop-place.out.items c.push_value.new.out.items c.loop-place-test.true c.index-values-place.is
    c.loop-place.invariant (c.in_ok-push_value.ensures ∙ ap (λ (v : Value). c.loop-place.out.items ++ delta_text c.args.service.now (c.loop-place.place + 1) (delta_of v)) c.as_slice.ensures)
