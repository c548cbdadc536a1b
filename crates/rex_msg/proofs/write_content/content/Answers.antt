use Rattle.std.specs.Int.{w32, w64, to_be_bytes}
use Rattle.rex_wire.proofs.Written.{then_last}
use Rattle.rex_msg.proofs.write_content.content.Goals as goal

pub returns-in_ok-u64-in-Prepare-clause-spelled : goal.returns-in_ok-u64-in-Prepare-clause-spelled
returns-in_ok-u64-in-Prepare-clause-spelled c =
    rw c.in-Prepare.is (then_last c.u32.result c.args.writer.now c.u64.new.self c.u32.new.self (to_be_bytes w64 c.in-Prepare.ballot) (to_be_bytes w32 c.in-Prepare.first) c.in_ok-u64-in-Prepare.ensures.ok c.u32.ensures.ok)

pub returns-in_ok-u64-in-Accepted-clause-spelled : goal.returns-in_ok-u64-in-Accepted-clause-spelled
returns-in_ok-u64-in-Accepted-clause-spelled c =
    rw c.in-Accepted.is (then_last c.u32-in-Accepted.result c.args.writer.now c.u64-in-Accepted.new.self c.u32-in-Accepted.new.self (to_be_bytes w64 c.in-Accepted.ballot) (to_be_bytes w32 c.in-Accepted.instance) c.in_ok-u64-in-Accepted.ensures.ok c.u32-in-Accepted.ensures.ok)

pub returns-in_ok-u64-in-Nack-clause-spelled : goal.returns-in_ok-u64-in-Nack-clause-spelled
returns-in_ok-u64-in-Nack-clause-spelled c =
    rw c.in-Nack.is (then_last c.u64-in-Nack-2.result c.args.writer.now c.u64-in-Nack.new.self c.u64-in-Nack-2.new.self (to_be_bytes w64 c.in-Nack.ballot) (to_be_bytes w64 c.in-Nack.promised) c.in_ok-u64-in-Nack.ensures.ok c.u64-in-Nack-2.ensures.ok)
