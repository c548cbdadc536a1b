use Rattle.std.proofs.Common.{ap, subst, ◌∙◌, arith}
use Rattle.rex_wire.specs.Decoding.{Gives}
use Rattle.rex_delta.specs.Reading.{delta_in}
use Rattle.rex_delta.specs.Alone.{events_of}
use Rattle.rex_delta.proofs.EventsAgain.{delta_read}
use Rattle.rex_delta.proofs.Tallies.{events_found}
use Rattle.rex_delta.proofs.events_alone.decode_events.Goals as goal

pub returns-clause-found : goal.returns-clause-found
returns-clause-found c = events_found c.args.bytes.now c.whole.result (λ i. omega (arith, c.type_inv.bytes i)) c.whole.ensures

pub returns-clause-only : goal.returns-clause-only
returns-clause-only c = λ d has e. subst (λ r. Gives c.whole.result r) (ap events_of (ap delta_in e ∙ delta_read d has)) c.whole.ensures
