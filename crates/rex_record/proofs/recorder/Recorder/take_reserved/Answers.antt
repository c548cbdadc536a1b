use Rattle.std.proofs.Common.{◌≡◌, ◌+◌, ◌<◌, ◌^◌, true, sym, subst, ◌∙◌, arith}
use Rattle.rex_record.specs.Value.{RecorderRoom}
use Rattle.rex_record.specs.Kept.{IsRecorder}
use Rattle.rex_record.specs.Take.{is_fit}
use Rattle.rex_record.proofs.Follows.{state_sound}
use Rattle.rex_record.proofs.Takes.{can_take, fit_room}
use Rattle.rex_record.proofs.recorder.Recorder.take_reserved.Goals as goal

pub is_fit-requires : goal.is_fit-requires
is_fit-requires c = state_sound c.args.svc.now _ c.declarations-service.ensures.sound (subst (λ (r : RecorderRoom). IsRecorder c.args.svc.now r.value) (sym c.self.view_is) c.requires.recorder)

pub take-requires-clause-sound : goal.take-requires-clause-sound
take-requires-clause-sound c = state_sound c.args.svc.now _ c.declarations-service.ensures.sound (subst (λ (r : RecorderRoom). IsRecorder c.args.svc.now r.value) (sym c.self.view_is) c.requires.recorder)

pub take-requires-clause-count : goal.take-requires-clause-count
take-requires-clause-count c =
    (subst (λ (r : RecorderRoom). is_fit c.args.svc.now r.value.state r.value.queue c.args.event.now ≡ true → c.args.event.now.index + 1 < 2 ^ 32) (sym c.self.view_is) c.requires.count) (sym c.is_fit.ensures ∙ c.if-not-is_fit.false)

pub invariant_of-self : goal.invariant_of-self
invariant_of-self c =
    let kept = subst (λ (r : RecorderRoom). IsRecorder c.args.svc.now r.value) (sym c.self.view_is) c.requires.recorder in
    let fit = sym c.is_fit.ensures ∙ c.if-not-is_fit.false in
    let count = subst (λ (r : RecorderRoom). is_fit c.args.svc.now r.value.state r.value.queue c.args.event.now ≡ true → c.args.event.now.index + 1 < 2 ^ 32) (sym c.self.view_is) c.requires.count in
    rw c.take.ensures.live
    (can_take c.args.svc.now _ c.args.event.now c.declarations-service.ensures.sound kept (omega arith) c.self.invariant (fit_room c.args.svc.now _ _ c.args.event.now fit (count fit)) fit).counted

pub returns-clause-kept : goal.returns-clause-kept
returns-clause-kept c =
    let kept = subst (λ (r : RecorderRoom). IsRecorder c.args.svc.now r.value) (sym c.self.view_is) c.requires.recorder in
    let fit = sym c.is_fit.ensures ∙ c.if-not-is_fit.false in
    let count = subst (λ (r : RecorderRoom). is_fit c.args.svc.now r.value.state r.value.queue c.args.event.now ≡ true → c.args.event.now.index + 1 < 2 ^ 32) (sym c.self.view_is) c.requires.count in
    rw c.take.ensures.live
    ((can_take c.args.svc.now _ c.args.event.now c.declarations-service.ensures.sound kept (omega arith) c.self.invariant (fit_room c.args.svc.now _ _ c.args.event.now fit (count fit)) fit).kept c.take.new.state c.take.ensures.state)
