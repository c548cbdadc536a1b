use Rattle.rex_wire.proofs.Written.{written_more}
use Rattle.rex_msg.specs.Spelling.{proposal_bytes}
use Rattle.rex_msg.proofs.write_proposals.proposals.Goals as goal

pub loop-p-preserved : goal.loop-p-preserved
loop-p-preserved c =
    written_more proposal_bytes c.args.writer.now c.loop-p.writer c.proposal.new.writer c.args.proposals.now c.loop-p.p-index c.p-item.result c.p-item.result c.loop-p-test.true c.p-item.is c.in_ok-proposal.ensures c.loop-p.invariant
