use Rattle.std.proofs.Common.{ap, ◌∙◌}
use Rattle.std.specs.Prelude.{pos}
use Rattle.rex_live.proofs.Kept.{found_stands, found_event}
use Rattle.rex_live.proofs.desk.Desk.next_event.Goals as goal

pub lane_event-event-requires-clause-stands : goal.lane_event-event-requires-clause-stands
lane_event-event-requires-clause-stands g c =
    found_stands _ c.args.svc.now _ _ _ _ _ _ _ _ c.args.lane c.requires.service c.declarations-service.ensures.sound c.self.view_is c.self.invariant c.requires.back

pub returns-clause-event : goal.returns-clause-event
returns-clause-event g c =
    c.lane_event-event.ensures.event
    ∙ found_event _ c.args.svc.now _ _ _ _ _ _ _ _ _ _ c.args.lane _ c.requires.service c.declarations-service.ensures.sound c.self.view_is c.self.invariant c.requires.there c.requires.back c.as_slice.ensures (ap pos c.len.ensures.len) c.in_ok-dice.ensures
