use Rattle.std.proofs.Common.{◌+◌, ℕ, [], ap, ◌∙◌, rules, FitsSigned, w64}
use Rattle.std.proofs.lemmas.Result.{err_from_is_err_and}
use Rattle.std.proofs.lemmas.Int.{to_z-of_z}
use Rattle.std.proofs.lemmas.List.{length_push}
use Rattle.rex_wire.proofs.Repeated.{goes_on, stops, is_done}
use Rattle.rex_wire.proofs.Lists.{same, alone, joined}
use Rattle.rex_delta.specs.Reading.{arguments_at}
use Rattle.rex_delta.proofs.Lists.{argument_at, arguments_in, arguments_repeated}
use Rattle.rex_delta.proofs.read_kinds.arguments.Goals as goal

pub returns-in_err-value : goal.returns-in_err-value
returns-in_err-value c =
    let p = err_from_is_err_and c.from_residual.result c.from_residual.ensures.1 in
    rw (p.1, p.2) (stops argument_at same [] alone joined arguments_in arguments_repeated tt c.args.count c.loop.counter c.loop.reader c.loop.arguments c.in_err-value.field-0.0.at (arguments_at c.args.count c.args.reader.now) c.loop-test.true c.in_err-value.ensures.0 c.loop.invariant.so_far)

pub loop-preserved : goal.loop-preserved
loop-preserved c =
    let fits : FitsSigned w64 c.in_ok-value.value = search rules in
    let pushed = simp to_z-of_z at c.push.ensures in
    record {
      few = rw pushed (length_push c.loop.arguments c.in_ok-value.value ∙ ap (λ (n : ℕ). n + 1) c.loop.invariant.few);
      so_far = rw pushed (goes_on argument_at same [] alone joined arguments_in arguments_repeated tt c.args.count c.loop.counter c.loop.reader c.loop.arguments c.in_ok-value.value c.i64.new.self (arguments_at c.args.count c.args.reader.now) c.loop-test.true c.in_ok-value.ensures c.loop.invariant.so_far);
    }

pub returns : goal.returns
returns c = is_done argument_at same [] alone joined arguments_in arguments_repeated tt c.args.count c.loop.counter c.loop.reader c.loop.arguments (arguments_at c.args.count c.args.reader.now) c.loop-test.false c.loop.invariant.so_far
