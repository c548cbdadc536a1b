use Rattle.std.proofs.Common.{[]}
use Rattle.std.proofs.lemmas.Result.{err_from_is_err_and}
use Rattle.rex_wire.proofs.Repeated.{goes_on, fails, is_done}
use Rattle.rex_wire.proofs.Lists.{alone, joined}
use Rattle.rex_delta.specs.Reading.{cause_at, causes_at}
use Rattle.rex_delta.proofs.Lists.{after_cause, causes_in, causes_repeated}
use Rattle.rex_delta.proofs.read_events.causes.Goals as goal

pub returns-in_err-cause : goal.returns-in_err-cause
returns-in_err-cause c =
    let bases = c.args.bases.now in
    let counts = c.args.counts.now in
    let lane = c.args.lane in
    let p = err_from_is_err_and c.from_residual-in_err-cause.result c.from_residual-in_err-cause.ensures.1 in
    rw (p.1, p.2) (fails (cause_at bases counts lane) after_cause [] alone joined (causes_in bases counts lane) (causes_repeated bases counts lane) c.in_err-cause.field-0.0 c.loop.above c.args.count c.loop.counter c.loop.reader c.loop.causes (causes_at bases counts lane c.args.count 0 c.args.reader.now) c.loop-test.true c.in_err-cause.ensures.read c.loop.invariant)

pub loop-preserved : goal.loop-preserved
loop-preserved c =
    let bases = c.args.bases.now in
    let counts = c.args.counts.now in
    let lane = c.args.lane in
    rw c.in_ok-push.ensures.ok (goes_on (cause_at bases counts lane) after_cause [] alone joined (causes_in bases counts lane) (causes_repeated bases counts lane) c.loop.above c.args.count c.loop.counter c.loop.reader c.loop.causes c.in_ok-cause.cause c.cause.new.reader (causes_at bases counts lane c.args.count 0 c.args.reader.now) c.loop-test.true c.in_ok-cause.ensures.read c.loop.invariant)

pub returns : goal.returns
returns c =
    let bases = c.args.bases.now in
    let counts = c.args.counts.now in
    let lane = c.args.lane in
    is_done (cause_at bases counts lane) after_cause [] alone joined (causes_in bases counts lane) (causes_repeated bases counts lane) c.loop.above c.args.count c.loop.counter c.loop.reader c.loop.causes (causes_at bases counts lane c.args.count 0 c.args.reader.now) c.loop-test.false c.loop.invariant
