use Rattle.std.proofs.Common.{sym, ◌∙◌}
use Rattle.rex_lockset.proofs.Forms.{read_inside}
use Rattle.rex_lockset.proofs.refusal.refused_line.Goals as goal

pub follow-requires-clause-next : goal.follow-requires-clause-next
follow-requires-clause-next c =
    (read_inside c.args.service.now c.args.handler.now c.as_slice-line-items.result.now _ c.loop-place.place c.line-item.result _ c.in-Ok.leads c.requires.handler c.as_slice-line-items.ensures (c.loop-place.auto.known ∙ c.requires.long) c.loop-place-test.true c.line-item.is (sym c.in-Ok.ensures)).0

pub follow-requires-clause-other : goal.follow-requires-clause-other
follow-requires-clause-other c =
    (read_inside c.args.service.now c.args.handler.now c.as_slice-line-items.result.now _ c.loop-place.place c.line-item.result _ c.in-Ok.leads c.requires.handler c.as_slice-line-items.ensures (c.loop-place.auto.known ∙ c.requires.long) c.loop-place-test.true c.line-item.is (sym c.in-Ok.ensures)).1
