use Rattle.std.proofs.Common.{[]}
use Rattle.std.proofs.lemmas.Result.{err_from_is_err_and}
use Rattle.rex_wire.proofs.Repeated.{goes_on, fails, is_done}
use Rattle.rex_wire.proofs.Lists.{alone, joined}
use Rattle.rex_msg.specs.Reading.{least_after, proposal_at, proposals_at}
use Rattle.rex_msg.proofs.Proposals.{proposals_in, proposals_repeated}
use Rattle.rex_msg.proofs.read_proposals.proposals.Goals as goal

pub returns-in_err-proposal : goal.returns-in_err-proposal
returns-in_err-proposal c =
    let p = err_from_is_err_and c.from_residual.result c.from_residual.ensures.1 in
    rw (p.1, p.2) (fails proposal_at least_after [] alone joined proposals_in proposals_repeated c.in_err-proposal.field-0.0 c.loop.least c.args.count c.loop.counter c.loop.reader c.loop.proposals (proposals_at c.args.count c.args.reader.now) c.loop-test.true c.in_err-proposal.ensures.read c.loop.invariant)

pub loop-preserved : goal.loop-preserved
loop-preserved c =
    rw c.in_ok-push.ensures.ok (goes_on proposal_at least_after [] alone joined proposals_in proposals_repeated c.loop.least c.args.count c.loop.counter c.loop.reader c.loop.proposals c.in_ok-proposal.proposal c.proposal.new.reader (proposals_at c.args.count c.args.reader.now) c.loop-test.true c.in_ok-proposal.ensures.read c.loop.invariant)

pub returns : goal.returns
returns c = is_done proposal_at least_after [] alone joined proposals_in proposals_repeated c.loop.least c.args.count c.loop.counter c.loop.reader c.loop.proposals (proposals_at c.args.count c.args.reader.now) c.loop-test.false c.loop.invariant
