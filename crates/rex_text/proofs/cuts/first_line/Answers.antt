use Rattle.std.proofs.Common.{◌+◌, arith, sym, ◌∙◌}
use Rattle.std.proofs.lemmas.List.{take_rest}
use Rattle.rex_text.proofs.Splits.{last_line, first_line_is}
use Rattle.rex_text.proofs.cuts.first_line.Goals as goal

pub returns-then-end-bytes-clause-first : goal.returns-then-end-bytes-clause-first
returns-then-end-bytes-clause-first c = last_line c.args.bytes.now (sym c.line_end-end.ensures.place ∙ c.if-end-bytes.true) c.requires

pub returns-clause-first : goal.returns-clause-first
returns-clause-first c =
    let bs = c.args.bytes.now in
    let n = c.line_end-end.result in
    rw (take_rest bs (n + 1), c.without_return.ensures) (first_line_is bs n (sym c.line_end-end.ensures.place) (omega arith))
