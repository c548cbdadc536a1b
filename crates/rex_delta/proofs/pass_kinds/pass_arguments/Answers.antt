use Rattle.std.proofs.lemmas.Result.{err_from_is_err_and}
use Rattle.rex_wire.proofs.Repeated.{goes_on, stops, is_done}
use Rattle.rex_wire.proofs.Lists.{same}
use Rattle.rex_delta.specs.Reading.{arguments_at}
use Rattle.rex_delta.specs.Parts.{passed}
use Rattle.rex_delta.proofs.Lists.{argument_at}
use Rattle.rex_delta.proofs.Passing.{no_one, neither, pass_arguments_in, arguments_pass}
use Rattle.rex_delta.proofs.pass_kinds.pass_arguments.Goals as goal

pub returns-in_err-i64-clause-read : goal.returns-in_err-i64-clause-read
returns-in_err-i64-clause-read c =
    let p = err_from_is_err_and c.from_residual.result c.from_residual.ensures.1 in
    rw (p.1, p.2) (stops argument_at same tt no_one neither pass_arguments_in arguments_pass tt c.args.count c.loop.counter c.loop.reader tt c.in_err-i64.field-0.0.at (passed (arguments_at c.args.count c.args.reader.now)) c.loop-test.true c.in_err-i64.ensures.0 c.loop.invariant)

pub loop-preserved : goal.loop-preserved
loop-preserved c = goes_on argument_at same tt no_one neither pass_arguments_in arguments_pass tt c.args.count c.loop.counter c.loop.reader tt c.in_ok-i64.field-0 c.i64.new.self (passed (arguments_at c.args.count c.args.reader.now)) c.loop-test.true c.in_ok-i64.ensures c.loop.invariant

pub returns-clause-read : goal.returns-clause-read
returns-clause-read c = is_done argument_at same tt no_one neither pass_arguments_in arguments_pass tt c.args.count c.loop.counter c.loop.reader tt (passed (arguments_at c.args.count c.args.reader.now)) c.loop-test.false c.loop.invariant
