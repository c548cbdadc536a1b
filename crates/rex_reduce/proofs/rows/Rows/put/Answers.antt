use Rattle.std.proofs.Common.{◌∙◌, sym, arith}
use Rattle.rex_reduce.specs.Summaries.{alone}
use Rattle.rex_reduce.proofs.Places.{row_added}
use Rattle.rex_reduce.proofs.rows.Rows.put.Goals as goal

pub returns : goal.returns
returns c =
    let old = c.self.inside in
    let made = c.index_of.new in
    let is = c.in_ok-index.ensures in
    row_added c.args.self.now old.rows.items made.rows.items old.numbers.items made.numbers.items c.args.place c.in_ok-index.index c.put.new.self (alone c.args.own.now c.args.lane) (sym c.self.view_is) is.apart (omega (arith, is.number)) is.same (c.put.ensures ∙ sym c.requires.covers)
