use Rattle.std.proofs.Common.{ap, subst, ◌∙◌, arith}
use Rattle.rex_wire.specs.Decoding.{Gives}
use Rattle.rex_snapshot.specs.Reading.{state_in}
use Rattle.rex_snapshot.proofs.Snapshots.{read_again}
use Rattle.rex_snapshot.proofs.Decoding.{is_sound, is_found}
use Rattle.rex_snapshot.proofs.read_state.decode.Goals as goal

pub returns-clause-sound : goal.returns-clause-sound
returns-clause-sound c = is_sound c.args.svc.now c.args.bytes.now c.state.result c.declarations-service.ensures.sound c.declarations-service.ensures.checked (λ i. omega (arith, c.type_inv.bytes i)) c.state.ensures.parts

pub returns-clause-found : goal.returns-clause-found
returns-clause-found c = is_found c.args.svc.now c.args.bytes.now c.state.result c.declarations-service.ensures.sound (λ i. omega (arith, c.type_inv.bytes i)) c.state.ensures.parts

pub returns-clause-only : goal.returns-clause-only
returns-clause-only c = λ s sound has is. subst (λ r. Gives c.state.result r) (ap (state_in c.args.svc.now) is.is ∙ read_again c.args.svc.now is.version s c.declarations-service.ensures.sound is.has sound has) c.state.ensures.read
