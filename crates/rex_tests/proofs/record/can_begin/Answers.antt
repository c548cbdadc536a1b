use Rattle.std.proofs.Common.{sym, ap, ◌∙◌}
use Rattle.rex_state.specs.Value.{StateValue}
use Rattle.rex_state.specs.Machine.{enabled}
use Rattle.rex_record.specs.Turn.{begin_of}
use Rattle.rex_record.proofs.Follows.{state_sound}
use Rattle.rex_tests.proofs.Begins.{can_queue}
use Rattle.rex_tests.proofs.record.can_begin.Goals as goal

pub enabled-requires : goal.enabled-requires
enabled-requires c = rw c.state.ensures (state_sound c.args.svc.now c.args.recorder.now.value c.declarations-service.ensures.sound c.requires)

pub returns : goal.returns
returns c = λ h.
    can_queue c.args.svc.now c.args.recorder.now.value.state 0 c.args.request.now
    (ap (λ (s : StateValue). enabled c.args.svc.now 0 (begin_of c.args.request.now) s) (sym c.state.ensures)
    ∙ sym c.enabled.ensures ∙ h)
