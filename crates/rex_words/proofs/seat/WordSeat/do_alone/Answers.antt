use Rattle.std.proofs.Common.{arith, ap, sym, refl, ◌∙◌, subst, ◌+◌}
use Rattle.std.specs.Prelude.{IsSome}
use Rattle.rex_syntax.specs.declared.service.Declarations.{Declarations}
use Rattle.rex_event.specs.declared.event.Event.{Event}
use Rattle.rex_state.specs.Machine.{next}
use Rattle.rex_record.specs.Turn.{event_at}
use Rattle.rex_words.specs.Seats.{IsAppended}
use Rattle.rex_words.proofs.Turning.{begun_small, this, room_alone, done_alone, chosen}
use Rattle.rex_words.proofs.seat.WordSeat.do_alone.Goals as goal

pub append-requires-clause-next : goal.append-requires-clause-next
append-requires-clause-next c = let t = this _ c.requires.right _ _ c.requires.seat _ (chosen c.args.words.now.key c.args.svc.now c.args.self.now c.args.kind c.requires.service c.requires.alone) in subst IsSome (sym (ap (λ (d : Declarations). next d c.args.self.now.state (event_at c.args.self.now.state c.args.self.now.lane c.args.kind)) c.requires.service ∙ t.leads)) refl

pub append-requires-clause-begun : goal.append-requires-clause-begun
append-requires-clause-begun c = begun_small _ c.requires.right _ c.requires.seat.lane

pub append-requires-clause-room : goal.append-requires-clause-room
append-requires-clause-room c = omega (arith, room_alone _ c.requires.right _ _ c.requires.seat _ (chosen c.args.words.now.key c.args.svc.now c.args.self.now c.args.kind c.requires.service c.requires.alone), c.requires.seat.lane.room, c.args.self.now.events.ok)

pub returns-clause-seat : goal.returns-clause-seat
returns-clause-seat c = done_alone _ c.requires.right _ _ c.requires.seat _ (chosen c.args.words.now.key c.args.svc.now c.args.self.now c.args.kind c.requires.service c.requires.alone) c.append.new.self
    (subst (λ (x : Declarations × Event). IsAppended x.0 c.args.self.now c.append.new.self x.1 (c.args.self.now.stamp + 1)) (λ i. (c.requires.service i, c.append.ensures.event i)) c.append.ensures.appended)
