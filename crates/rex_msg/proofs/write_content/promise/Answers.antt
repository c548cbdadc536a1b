use Rattle.std.proofs.Common.{length, arith}
use Rattle.std.specs.Int.{w16, w64, to_be_bytes}
use Rattle.std.specs.List.{flat_map}
use Rattle.rex_wire.proofs.Written.{two_then_last}
use Rattle.rex_msg.specs.Spelling.{proposal_bytes}
use Rattle.rex_msg.proofs.Proposals.{reported_few}
use Rattle.rex_msg.proofs.write_content.promise.Goals as goal

pub overflow_cast-accepted : goal.overflow_cast-accepted
overflow_cast-accepted c = omega (arith, reported_few c.args.accepted.now c.requires)

pub returns : goal.returns
returns c =
    let accepted = c.args.accepted.now in
    two_then_last c.proposals.result c.args.writer.now c.u64.new.self c.u16.new.self c.proposals.new.writer (to_be_bytes w64 c.args.ballot) (to_be_bytes w16 (length accepted)) (flat_map proposal_bytes accepted) c.in_ok-u64.ensures.ok c.in_ok-u16.ensures.ok c.proposals.ensures
