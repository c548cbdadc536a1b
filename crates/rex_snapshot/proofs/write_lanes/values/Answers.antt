use Rattle.std.proofs.Common.{FitsSigned, w64, slice_index_or, pos, refl, rules}
use Rattle.std.proofs.lemmas.Int.{to_z-of_z}
use Rattle.std.proofs.lemmas.List.Elements.{All-more}
use Rattle.rex_wire.specs.Spelling.{signed}
use Rattle.rex_wire.proofs.Written.{written_more}
use Rattle.rex_snapshot.proofs.write_lanes.values.Goals as goal

pub loop-value-preserved : goal.loop-value-preserved
loop-value-preserved c =
    let values = c.args.values.now in
    let i = c.loop-value.value-index in
    let fits : FitsSigned w64 (slice_index_or values i (pos 0)) = search rules in
    let step = simp to_z-of_z at c.in_ok-i64.ensures.ok in
    record {
      spelled = written_more signed c.args.writer.now c.loop-value.writer c.i64.new.self values i (slice_index_or values i (pos 0)) (pos 0) c.loop-value-test.true refl step c.loop-value.invariant.spelled;
      typed = All-more (FitsSigned w64) values i (pos 0) c.loop-value-test.true c.loop-value.invariant.typed fits;
    }
