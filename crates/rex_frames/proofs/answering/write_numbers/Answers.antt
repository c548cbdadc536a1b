use Rattle.std.specs.Int.{w32, w64, to_be_bytes}
use Rattle.rex_wire.proofs.Written.{two_then_last}
use Rattle.rex_frames.proofs.answering.write_numbers.Goals as goal

pub returns : goal.returns
returns c =
    let s = c.args.status in
    two_then_last c.u32-2.result c.args.writer.now c.u64.new.self c.u32.new.self c.u32-2.new.self (to_be_bytes w64 s.promised) (to_be_bytes w32 s.known) (to_be_bytes w32 s.live) c.in_ok-u64.ensures.ok c.in_ok-u32.ensures.ok c.u32-2.ensures.ok
