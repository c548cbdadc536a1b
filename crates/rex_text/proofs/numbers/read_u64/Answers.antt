use Rattle.std.proofs.Common.{◌≡◌, ◌<◌, length, inl, inr, arith, sym, subst, ◌∙◌}
use Rattle.std.proofs.lemmas.Bool.{eqb-false, eqb-true}
use Rattle.rex_text.proofs.Splits.{pos_from_ne}
use Rattle.rex_text.proofs.Spellings.{HasRead, all_read, not_begun, not_read}
use Rattle.rex_text.proofs.numbers.read_u64.Goals as goal

pub returns-then-is_empty : goal.returns-then-is_empty
returns-then-is_empty c = not_begun c.args.word.now (inl (eqb-true _ _ (sym c.is_empty.ensures ∙ c.if-is_empty.true)))

pub returns-then-word-gt1 : goal.returns-then-word-gt1
returns-then-word-gt1 c = not_begun c.args.word.now (inr (c.if-word-eq48.true, c.if-word-gt1.true))

pub returns-in_err-number : goal.returns-in_err-number
returns-in_err-number c =
    c.from_residual.ensures ∙ not_read c.args.word.now c.loop-byte.byte-index c.loop-byte.number c.loop-byte-test.true c.loop-byte.invariant.0 c.in_err-number.ensures

pub returns : goal.returns
returns c =
    let w = c.args.word.now in
    let n = c.loop-byte.number in
    let some : 0 < length w = pos_from_ne _ (eqb-false _ _ (sym c.is_empty.ensures ∙ c.if-is_empty.false)) in
    let end : c.loop-byte.byte-index ≡ length w = omega arith in
    all_read w n c.loop-byte.invariant.1 some (λ z. omega (arith, c.else-word-eq48.either)) (subst (λ i. HasRead w i n) end c.loop-byte.invariant.0)
