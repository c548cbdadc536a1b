use Rattle.std.proofs.Common.{◌≡◌, ◌≤◌, List, Some, length, sym, ap, subst, ◌∙◌}
use Rattle.rex_event.specs.declared.event.Event.{Event}
use Rattle.rex_state.specs.Machine.{run}
use Rattle.rex_record.specs.Value.{RecorderRoom}
use Rattle.rex_record.specs.Block.{has_place, taken_all}
use Rattle.rex_record.specs.Kept.{IsRecorder}
use Rattle.rex_record.proofs.Blocks.{block_taken, counted_both}
use Rattle.rex_record.proofs.recorder.Recorder.take_block.Goals as goal

pub has_place-requires : goal.has_place-requires
has_place-requires c = record {
  few = subst (λ (es : List Event). length es ≤ 4096) (sym c.deref.ensures.value) ((subst (λ (r : RecorderRoom). IsRecorder c.args.svc.now r.value) (sym c.self.view_is) c.requires.recorder).few);
}

pub invariant_of-self-2 : goal.invariant_of-self-2
invariant_of-self-2 c = rw c.in_ok-extend_from_slice.ensures.items (counted_both c.self.inside.live.items c.args.events.now c.self.invariant c.requires.counted)

pub returns-clause-taken : goal.returns-clause-taken
returns-clause-taken c =
    let b = block_taken c.args.svc.now (record { start = c.self.inside.start; live = c.self.inside.live.items; state = c.self.inside.state; queue = c.self.inside.queue.items }) c.args.events.now c.args.state
    c.declarations-service.ensures.sound
    (subst (λ (r : RecorderRoom). IsRecorder c.args.svc.now r.value) (sym c.self.view_is) c.requires.recorder)
    c.self.invariant c.requires.counted
    (subst (λ (r : RecorderRoom). run c.args.svc.now r.value.state c.args.events.now ≡ Some c.args.state) (sym c.self.view_is) c.requires.runs)
    (ap (λ (es : List Event). has_place es c.self.inside.queue.items c.args.events.now) (sym c.deref.ensures.value) ∙ sym c.has_place.ensures ∙ c.if-not-has_place.false) in
    rw c.in_ok-extend_from_slice.ensures.items (sym b.is ∙ ap (λ (r : RecorderRoom). taken_all c.args.svc.now r.value c.args.events.now) c.self.view_is)

pub returns-clause-kept : goal.returns-clause-kept
returns-clause-kept c =
    let b = block_taken c.args.svc.now (record { start = c.self.inside.start; live = c.self.inside.live.items; state = c.self.inside.state; queue = c.self.inside.queue.items }) c.args.events.now c.args.state
    c.declarations-service.ensures.sound
    (subst (λ (r : RecorderRoom). IsRecorder c.args.svc.now r.value) (sym c.self.view_is) c.requires.recorder)
    c.self.invariant c.requires.counted
    (subst (λ (r : RecorderRoom). run c.args.svc.now r.value.state c.args.events.now ≡ Some c.args.state) (sym c.self.view_is) c.requires.runs)
    (ap (λ (es : List Event). has_place es c.self.inside.queue.items c.args.events.now) (sym c.deref.ensures.value) ∙ sym c.has_place.ensures ∙ c.if-not-has_place.false) in
    rw c.in_ok-extend_from_slice.ensures.items b.kept
