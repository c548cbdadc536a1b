use Rattle.std.specs.Int.{w32, w64, to_be_bytes}
use Rattle.rex_wire.specs.Spelling.{value_bytes}
use Rattle.rex_wire.proofs.Written.{two_then_last}
use Rattle.rex_durable.proofs.write.accepted.Goals as goal

pub returns : goal.returns
returns c = two_then_last c.write_value.result c.args.writer.now c.u64.new.self c.u32.new.self c.write_value.new.writer (to_be_bytes w64 c.args.ballot) (to_be_bytes w32 c.args.instance) (value_bytes c.args.value.now) c.in_ok-u64.ensures.ok c.in_ok-u32.ensures.ok c.write_value.ensures
