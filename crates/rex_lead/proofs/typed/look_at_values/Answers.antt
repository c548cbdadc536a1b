use Rattle.std.proofs.Common.{FitsSigned, w64, slice_index_or, pos, rules}
use Rattle.std.proofs.lemmas.List.Elements.{All-more}
use Rattle.rex_lead.proofs.typed.look_at_values.Goals as goal

pub loop-value-preserved : goal.loop-value-preserved
loop-value-preserved c =
    let fits : FitsSigned w64 (slice_index_or c.args.values.now c.loop-value.value-index (pos 0)) = search rules in
    record { looked = All-more (FitsSigned w64) c.args.values.now c.loop-value.value-index (pos 0) c.loop-value-test.true c.loop-value.invariant.looked fits }
