use Rattle.std.specs.Int.{w32, w64, to_be_bytes}
use Rattle.rex_wire.specs.Spelling.{value_bytes}
use Rattle.rex_wire.proofs.Written.{two_then_last}
use Rattle.rex_msg.proofs.write_proposals.proposal.Goals as goal

pub returns : goal.returns
returns c =
    let p = c.args.proposal.now in
    two_then_last c.write_value.result c.args.writer.now c.u32.new.self c.u64.new.self c.write_value.new.writer (to_be_bytes w32 p.instance) (to_be_bytes w64 p.ballot) (value_bytes p.value) c.in_ok-u32.ensures.ok c.in_ok-u64.ensures.ok (rw c.as_slice.ensures at c.write_value.ensures)
