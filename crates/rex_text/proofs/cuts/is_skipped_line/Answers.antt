use Rattle.std.proofs.Common.{◌<◌, length, arith, sym, ◌∙◌}
use Rattle.std.proofs.lemmas.Bool.{eq-eqb}
use Rattle.rex_text.proofs.Splits.{skips_blanks, skips_by_first}
use Rattle.rex_text.proofs.cuts.is_skipped_line.Goals as goal

pub returns-then-start-line : goal.returns-then-start-line
returns-then-start-line c =
    eq-eqb _ _ c.if-start-line.true ∙ sym (skips_blanks c.args.line.now c.word_start-start.result c.word_start-start.ensures.place c.if-start-line.true)

pub returns-else-start-line : goal.returns-else-start-line
returns-else-start-line c =
    let w = c.word_start-start in
    let short : w.result < length c.args.line.now = omega (arith, w.ensures.within, c.if-start-line.false) in
    sym (skips_by_first c.args.line.now w.result w.ensures.place short)
