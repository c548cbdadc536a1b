use Rattle.std.proofs.Common.{◌≡◌}
use Rattle.rex_answer.specs.Refusals.{handler_of}
use Rattle.rex_answer.proofs.There.{handler_there, handler_is, line_there}
use Rattle.rex_answer.proofs.refusals.check_refusal.Goals as goal

pub bounds-as_slice-refused : goal.bounds-as_slice-refused
bounds-as_slice-refused c =
    rw c.as_slice.ensures (handler_there c.args.service.now c.args.refused (c.refusals_are_there.ensures c.args.service.now c.args.refused c.requires.refused))

pub number_in-number-requires : goal.number_in-number-requires
number_in-number-requires c =
    let there = c.refusals_are_there.ensures c.args.service.now c.args.refused c.requires.refused in
    let is : c.index-as_slice-refused.result ≡ handler_of c.args.service.now c.args.refused =
    handler_is c.args.service.now c.as_slice.result.now c.args.refused c.index-as_slice-refused.result there c.as_slice.ensures c.index-as_slice-refused.is
    in rw is (line_there c.args.service.now c.args.refused c.requires.sound there)

pub returns : goal.returns
returns c =
    let there = c.refusals_are_there.ensures c.args.service.now c.args.refused c.requires.refused in
    let is : c.index-as_slice-refused.result ≡ handler_of c.args.service.now c.args.refused =
    handler_is c.args.service.now c.as_slice.result.now c.args.refused c.index-as_slice-refused.result there c.as_slice.ensures c.index-as_slice-refused.is
    in rw (← is) (rw (c.number_in-number.ensures, c.as_slice-2.ensures, c.check_code.ensures) at c.line.ensures)
