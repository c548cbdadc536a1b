use Rattle.std.proofs.Common.{◌++◌, ◌∙◌, arith}
use Rattle.rex_gate.specs.Noted.{noted}
use Rattle.rex_record.specs.Value.{releases}
use Rattle.rex_record.proofs.Releasing.{noted_on, releases_on}
use Rattle.rex_record.proofs.parts.release_all.Goals as goal

pub loop-event-preserved : goal.loop-event-preserved
loop-event-preserved c = record {
  released =
      releases_on c.loop-event.clients c.note_kind.new.clients c.args.events.now c.loop-event.event-index c.event-item.result c.loop-event.released.items c.release.new.released.items
      (c.args.released.now.items ++ releases c.args.clients.now c.args.events.now) c.loop-event-test.true c.event-item.is c.note_kind.ensures c.release.ensures.released c.loop-event.invariant.released;
  clients =
      noted_on c.loop-event.clients c.note_kind.new.clients c.args.events.now c.loop-event.event-index c.event-item.result (noted c.args.clients.now c.args.events.now)
      c.loop-event-test.true c.event-item.is c.note_kind.ensures c.loop-event.invariant.clients;
  capacity = c.release.ensures.capacity ∙ c.loop-event.invariant.capacity;
  len = let was = c.loop-event.invariant.len in let more = c.release.ensures.len in omega (arith, was, more);
}
