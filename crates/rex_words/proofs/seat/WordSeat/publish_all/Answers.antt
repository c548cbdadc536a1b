use Rattle.std.proofs.Common.{arith, ap, ◌∙◌, length}
use Rattle.rex_syntax.specs.declared.service.Declarations.{Declarations}
use Rattle.rex_words.proofs.Publishing.{publish_whole}
use Rattle.rex_words.proofs.seat.WordSeat.publish_all.Goals as goal

pub returns-clause-publishing : goal.returns-clause-publishing
returns-clause-publishing c =
    let same = ap length (c.as_slice-variables.ensures ∙ ap (λ (d : Declarations). d.variables) (c.declarations-service.ensures.whole ∙ c.requires.service)) in
    publish_whole _ _ _ _ _ c.loop-variable.invariant.publishing (omega (arith, same, c.loop-variable-test.false))
