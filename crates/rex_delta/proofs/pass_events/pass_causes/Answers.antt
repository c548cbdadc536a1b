use Rattle.std.proofs.lemmas.Result.{err_from_is_err_and}
use Rattle.rex_wire.proofs.Repeated.{goes_on, fails, is_done}
use Rattle.rex_delta.specs.Reading.{cause_at, causes_at}
use Rattle.rex_delta.specs.Parts.{passed}
use Rattle.rex_delta.proofs.Lists.{after_cause}
use Rattle.rex_delta.proofs.Passing.{no_one, neither, pass_causes_in, causes_pass}
use Rattle.rex_delta.proofs.pass_events.pass_causes.Goals as goal

pub returns-in_err-cause-clause-read : goal.returns-in_err-cause-clause-read
returns-in_err-cause-clause-read c =
    let bases = c.args.bases.now in
    let counts = c.args.counts.now in
    let lane = c.args.lane in
    let p = err_from_is_err_and c.from_residual.result c.from_residual.ensures.1 in
    rw (p.1, p.2) (fails (cause_at bases counts lane) after_cause tt no_one neither (pass_causes_in bases counts lane) (causes_pass bases counts lane) c.in_err-cause.field-0.0 c.loop.above c.args.count c.loop.counter c.loop.reader tt (passed (causes_at bases counts lane c.args.count 0 c.args.reader.now)) c.loop-test.true c.in_err-cause.ensures.read c.loop.invariant)

pub loop-preserved : goal.loop-preserved
loop-preserved c =
    let bases = c.args.bases.now in
    let counts = c.args.counts.now in
    let lane = c.args.lane in
    goes_on (cause_at bases counts lane) after_cause tt no_one neither (pass_causes_in bases counts lane) (causes_pass bases counts lane) c.loop.above c.args.count c.loop.counter c.loop.reader tt c.in_ok-cause.cause c.cause.new.reader (passed (causes_at bases counts lane c.args.count 0 c.args.reader.now)) c.loop-test.true c.in_ok-cause.ensures.read c.loop.invariant

pub returns-clause-read : goal.returns-clause-read
returns-clause-read c =
    let bases = c.args.bases.now in
    let counts = c.args.counts.now in
    let lane = c.args.lane in
    is_done (cause_at bases counts lane) after_cause tt no_one neither (pass_causes_in bases counts lane) (causes_pass bases counts lane) c.loop.above c.args.count c.loop.counter c.loop.reader tt (passed (causes_at bases counts lane c.args.count 0 c.args.reader.now)) c.loop-test.false c.loop.invariant
