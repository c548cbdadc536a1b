use Rattle.std.proofs.Common.{subst}
use Rattle.std.proofs.lemmas.List.Elements.{All-more}
use Rattle.rex_delta.specs.Spelling.{HasTypedKind}
use Rattle.rex_lead.proofs.typed.look_at_all.Goals as goal

pub loop-event-preserved : goal.loop-event-preserved
loop-event-preserved c = record {
  looked = All-more HasTypedKind c.args.events.now c.loop-event.event-index c.event-item.result c.loop-event-test.true c.loop-event.invariant.looked (subst HasTypedKind c.event-item.is c.look_at_event.ensures);
}
