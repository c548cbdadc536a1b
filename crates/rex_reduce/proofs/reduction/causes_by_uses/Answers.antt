use Rattle.std.proofs.Common.{take, reverse, ◌∙◌}
use Rattle.rex_reduce.specs.Reduction.{first_indices}
use Rattle.rex_reduce.specs.Summaries.{alone}
use Rattle.rex_reduce.proofs.Covers.{uses_covered}
use Rattle.rex_reduce.proofs.Steps.{trace_lanes, turn, turn_met, turn_own, turn_kept, turn_causes, turn_room, turn_lane, turn_next}
use Rattle.rex_reduce.proofs.reduction.causes_by_uses.Goals as goal

pub first_indices-first-requires : goal.first_indices-first-requires
first_indices-first-requires c = trace_lanes c.args.events.now c.requires.trace

pub causes_of-requires : goal.causes_of-requires
causes_of-requires c = λ lane.
    let es = c.args.events.now in
    let e = c.event-item.result in
    let t = turn es c.loop-event.event-index e c.loop-event-test.true c.event-item.is in
    let m = turn_met es c.loop-event.event-index e c.loop-event.uses c.met.new.summary c.requires.trace t c.loop-event.invariant.kept c.met.ensures in
    rw c.first_indices-first.ensures (turn_room es c.loop-event.event-index e c.met.new.summary lane c.requires.trace c.requires.room t m)

pub tick-requires-clause-lane : goal.tick-requires-clause-lane
tick-requires-clause-lane c =
    turn_lane c.args.events.now c.loop-event.event-index c.event-item.result c.requires.trace
    (turn c.args.events.now c.loop-event.event-index c.event-item.result c.loop-event-test.true c.event-item.is)

pub tick-requires-clause-room : goal.tick-requires-clause-room
tick-requires-clause-room c =
    let es = c.args.events.now in
    let e = c.event-item.result in
    let t = turn es c.loop-event.event-index e c.loop-event-test.true c.event-item.is in
    turn_next es c.loop-event.event-index e c.met.new.summary c.requires.trace c.requires.room t (turn_met es c.loop-event.event-index e c.loop-event.uses c.met.new.summary c.requires.trace t c.loop-event.invariant.kept c.met.ensures)

pub add-requires-clause-lane : goal.add-requires-clause-lane
add-requires-clause-lane c =
    turn_lane c.args.events.now c.loop-event.event-index c.event-item.result c.requires.trace
    (turn c.args.events.now c.loop-event.event-index c.event-item.result c.loop-event-test.true c.event-item.is)

pub add-requires-clause-covers : goal.add-requires-clause-covers
add-requires-clause-covers c =
    let es = c.args.events.now in
    let i = c.loop-event.event-index in
    let e = c.event-item.result in
    let t = turn es i e c.loop-event-test.true c.event-item.is in
    let m = turn_met es i e c.loop-event.uses c.met.new.summary c.requires.trace t c.loop-event.invariant.kept c.met.ensures in
    let own = turn_own es i e c.met.new.summary c.tick.new.self c.requires.trace t m c.tick.ensures in
    uses_covered (reverse (take i es)) e (alone c.tick.new.self e.lane) c.loop-event.uses own c.loop-event.invariant.kept

pub loop-event-preserved : goal.loop-event-preserved
loop-event-preserved c =
    let es = c.args.events.now in
    let i = c.loop-event.event-index in
    let e = c.event-item.result in
    let t = turn es i e c.loop-event-test.true c.event-item.is in
    let m = turn_met es i e c.loop-event.uses c.met.new.summary c.requires.trace t c.loop-event.invariant.kept c.met.ensures in
    record {
      causes =
          let own = rw c.first_indices-first.ensures at c.in_ok-causes_of.ensures in
          rw c.in_ok-push.ensures.items (turn_causes es (first_indices es) i e c.met.new.summary c.loop-event.causes.items c.in_ok-causes_of.field-0 t m own ∙ c.loop-event.invariant.causes);
      kept =
          let own = turn_own es i e c.met.new.summary c.tick.new.self c.requires.trace t m c.tick.ensures in
          turn_kept es i e c.loop-event.uses c.add.new.self (alone c.tick.new.self e.lane) t c.loop-event.invariant.kept own c.in_ok-add.ensures;
    }
