use Rattle.std.proofs.Common.{arith, subst}
use Rattle.rex_syntax.specs.declared.service.Declarations.{Declarations}
use Rattle.rex_event.specs.declared.event.Event.{Event}
use Rattle.rex_words.specs.Seats.{IsAppended}
use Rattle.rex_words.proofs.Turning.{begun_small, room_ahead, caught_up}
use Rattle.rex_words.proofs.seat.WordSeat.catch_up.Goals as goal

pub append-requires-clause-begun : goal.append-requires-clause-begun
append-requires-clause-begun c = begun_small _ c.requires.right _ c.requires.ahead.lane

pub append-requires-clause-room : goal.append-requires-clause-room
append-requires-clause-room c = omega (arith, room_ahead _ c.requires.right _ _ _ _ c.requires.ahead, c.requires.ahead.lane.room, c.args.self.now.events.ok)

pub returns-clause-seat : goal.returns-clause-seat
returns-clause-seat c = caught_up _ c.requires.right _ _ _ _ c.requires.ahead c.append.new.self
    (subst (λ (x : Declarations × Event). IsAppended x.0 c.args.self.now c.append.new.self x.1 c.args.stamp) (λ i. (c.requires.service i, c.append.ensures.event i)) c.append.ensures.appended)
