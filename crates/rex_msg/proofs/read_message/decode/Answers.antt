use Rattle.std.proofs.Common.{ap, subst, ◌∙◌, arith}
use Rattle.rex_wire.specs.Decoding.{Gives}
use Rattle.rex_msg.specs.Reading.{message_in}
use Rattle.rex_msg.proofs.MessageLaws.{message_is_found}
use Rattle.rex_msg.proofs.MessageAgain.{message_read}
use Rattle.rex_msg.proofs.read_message.decode.Goals as goal

pub returns-clause-found : goal.returns-clause-found
returns-clause-found c = message_is_found c.args.bytes.now c.whole.result (λ i. omega (arith, c.type_inv.bytes i)) c.whole.ensures

pub returns-clause-only : goal.returns-clause-only
returns-clause-only c = λ m has e. subst (λ r. Gives c.whole.result r) (ap message_in e ∙ message_read m has) c.whole.ensures
