use Rattle.std.proofs.Common.{rules, FitsSigned, w64}
use Rattle.std.proofs.lemmas.Result.{err_from_is_err_and}
use Rattle.std.proofs.lemmas.Int.{to_z-of_z}
use Rattle.std.proofs.lemmas.List.Elements.{All-nil, All-push}
use Rattle.rex_snapshot.specs.Reading.{alike, value_at, values_at}
use Rattle.rex_snapshot.proofs.Repeated.{none_yet, goes_on, stops, is_done}
use Rattle.rex_snapshot.proofs.read_variables.values.Goals as goal

pub loop-init : goal.loop-init
loop-init c = rw c.new-values.ensures (record { so_far = none_yet value_at alike c.args.count tt c.args.reader.now; typed = All-nil (FitsSigned w64) })

pub returns-in_err-value-clause-read : goal.returns-in_err-value-clause-read
returns-in_err-value-clause-read c =
    let p = err_from_is_err_and c.from_residual.result c.from_residual.ensures.1 in
    rw (p.1, p.2) (stops value_at alike tt c.args.count c.loop.counter c.loop.reader c.loop.values c.in_err-value.field-0.0.at (values_at c.args.count c.args.reader.now) c.loop-test.true c.in_err-value.ensures.0 c.loop.invariant.so_far)

pub loop-preserved : goal.loop-preserved
loop-preserved c =
    let fits : FitsSigned w64 c.in_ok-value.value = search rules in
    let pushed = simp to_z-of_z at c.in_ok-push.ensures.ok in
    record {
      so_far = rw pushed (goes_on value_at alike tt c.args.count c.loop.counter c.loop.reader c.loop.values c.in_ok-value.value c.i64.new.self (values_at c.args.count c.args.reader.now) c.loop-test.true c.in_ok-value.ensures c.loop.invariant.so_far);
      typed = rw pushed (All-push (FitsSigned w64) c.loop.values c.in_ok-value.value c.loop.invariant.typed fits);
    }

pub returns-clause-read : goal.returns-clause-read
returns-clause-read c = is_done value_at alike tt c.args.count c.loop.counter c.loop.reader c.loop.values (values_at c.args.count c.args.reader.now) c.loop-test.false c.loop.invariant.so_far
