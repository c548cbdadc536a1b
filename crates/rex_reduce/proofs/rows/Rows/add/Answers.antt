use Rattle.std.proofs.Common.{◌∙◌, ap, sym, arith}
use Rattle.std.proofs.lemmas.List.{get_or_read}
use Rattle.rex_reduce.specs.declared.summary.Summary.{Summary}
use Rattle.rex_reduce.specs.Summaries.{nothing, joined, alone}
use Rattle.rex_reduce.proofs.Places.{row_was, row_added}
use Rattle.rex_reduce.proofs.rows.Rows.add.Goals as goal

pub returns : goal.returns
returns c =
    let old = c.self.inside in
    let rows = c.index_of.new.rows.items in
    let numbers = c.index_of.new.numbers.items in
    let own = alone c.args.own.now c.args.lane in
    let index = c.in_ok-index.index in
    let is = c.in_ok-index.ensures in
    let below = is.apart.within c.args.place in
    let read = get_or_read rows index c.index_mut.result.now (omega (arith, below, is.number)) c.index_mut.ensures.value nothing in
    let was = row_was c.args.self.now old.rows.items rows old.numbers.items numbers c.args.place index (sym c.self.view_is) (omega (arith, is.number)) is.same in
    row_added c.args.self.now old.rows.items rows old.numbers.items numbers c.args.place index c.add.new.self own (sym c.self.view_is) is.apart (omega (arith, is.number)) is.same (c.add.ensures ∙ ap (λ (x : Summary). joined x own) (read ∙ was))
