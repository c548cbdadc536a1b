use Rattle.std.proofs.lemmas.Result.{err_from_is_err_and}
use Rattle.rex_snapshot.specs.Semaphores.{next_level_at, same_way, levels_at}
use Rattle.rex_snapshot.proofs.Repeated.{none_yet, goes_on, fails, is_done}
use Rattle.rex_snapshot.proofs.semaphores.read_semaphores.Goals as goal

pub loop-init : goal.loop-init
loop-init c = rw c.new-levels.ensures (none_yet next_level_at same_way c.args.count tt c.args.reader.now)

pub returns-in_err-level : goal.returns-in_err-level
returns-in_err-level c =
    let p = err_from_is_err_and c.from_residual.result c.from_residual.ensures.1 in
    rw (p.1, p.2) (fails next_level_at same_way c.in_err-level.field-0.0 tt c.args.count c.loop.counter c.loop.reader c.loop.levels (levels_at c.args.count c.args.reader.now) c.loop-test.true c.in_err-level.ensures c.loop.invariant)

pub loop-preserved : goal.loop-preserved
loop-preserved c = rw c.in_ok-push.ensures.ok (goes_on next_level_at same_way tt c.args.count c.loop.counter c.loop.reader c.loop.levels c.in_ok-level.level c.level.new.reader (levels_at c.args.count c.args.reader.now) c.loop-test.true c.in_ok-level.ensures c.loop.invariant)

pub returns : goal.returns
returns c = is_done next_level_at same_way tt c.args.count c.loop.counter c.loop.reader c.loop.levels (levels_at c.args.count c.args.reader.now) c.loop-test.false c.loop.invariant
