use Rattle.std.proofs.lemmas.List.{length_push}
use Rattle.std.proofs.lemmas.Iterator.Adapters.{YieldsList-from_rev_slice}
use Rattle.std.proofs.lemmas.Iterator.Consumers.{YieldsList-turn}
use Rattle.rex_cut.proofs.Steps.{bases_begin, bases_turn}
use Rattle.rex_cut.proofs.delta.lower_to_first.Goals as goal

pub loop-event-init : goal.loop-event-init
loop-event-init c = bases_begin c.args.events.now c.args.bases.now

pub loop-event-preserved : goal.loop-event-preserved
loop-event-preserved c =
    let t = YieldsList-turn (YieldsList-from_rev_slice c.args.events.now cc) c.loop-event.yielded _ c.loop-event.yielded_by _ _ c.in-Some.event c.in-Some.is c.next.ensures.steps in
    bases_turn c.args.events.now c.args.bases.now c.loop-event.bases c.in-Some.event.now _ _ c.requires t (length_push c.loop-event.yielded c.in-Some.event) c.loop-event.invariant
