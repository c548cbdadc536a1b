use Rattle.std.proofs.Common.{◌∙◌}
use Rattle.std.proofs.lemmas.List.{at_drop_all}
use Rattle.rex_tests.proofs.Fronts.{stand_first, front_is_consistent}
use Rattle.rex_tests.proofs.record.stand_first.Goals as goal

pub returns : goal.returns
returns c = λ h.
    front_is_consistent c.args.cut.now.counts c.args.events.now
    (c.loop-event.invariant ∙ at_drop_all (stand_first c.args.cut.now.counts c.loop-event.is_front) c.args.events.now c.loop-event.event-index c.loop-event-test.false)
