use Rattle.std.proofs.Common.{arith, length}
use Rattle.std.proofs.lemmas.Result.{err_from_is_err_and}
use Rattle.std.proofs.lemmas.List.Elements.{All-push}
use Rattle.rex_snapshot.specs.Changes.{IsWithin}
use Rattle.rex_snapshot.specs.Reading.{after_change, change_at, changes_at}
use Rattle.rex_snapshot.proofs.Repeated.{goes_on, fails, is_done}
use Rattle.rex_snapshot.proofs.read_variables.changes.Goals as goal

pub returns-in_err-change-clause-read : goal.returns-in_err-change-clause-read
returns-in_err-change-clause-read c =
    let svc = c.args.svc.now in
    let p = err_from_is_err_and c.from_residual.result c.from_residual.ensures.1 in
    rw (p.1, p.2) (fails (change_at svc) after_change c.in_err-change.field-0.0 c.loop.least c.args.count c.loop.counter c.loop.reader c.loop.changes (changes_at svc c.args.count c.args.reader.now) c.loop-test.true c.in_err-change.ensures.read c.loop.invariant.so_far)

pub loop-preserved : goal.loop-preserved
loop-preserved c =
    let svc = c.args.svc.now in
    let within : IsWithin (length svc.variables) c.in_ok-change.change = c.in_ok-change.ensures.inside in
    record {
      least = omega (arith, within.inside);
      so_far = rw c.in_ok-push.ensures.ok (goes_on (change_at svc) after_change c.loop.least c.args.count c.loop.counter c.loop.reader c.loop.changes c.in_ok-change.change c.change.new.reader (changes_at svc c.args.count c.args.reader.now) c.loop-test.true c.in_ok-change.ensures.read c.loop.invariant.so_far);
      inside = rw c.in_ok-push.ensures.ok (All-push (IsWithin (length svc.variables)) c.loop.changes c.in_ok-change.change c.loop.invariant.inside within);
    }

pub returns-clause-read : goal.returns-clause-read
returns-clause-read c = is_done (change_at c.args.svc.now) after_change c.loop.least c.args.count c.loop.counter c.loop.reader c.loop.changes (changes_at c.args.svc.now c.args.count c.args.reader.now) c.loop-test.false c.loop.invariant.so_far
