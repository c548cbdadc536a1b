use Rattle.std.proofs.Common.{arith}
use Rattle.rex_group.proofs.Groups.{reads_one}
use Rattle.rex_group.proofs.reading.first_length.Goals as goal

pub returns-in-Ok-bytes-clause-some : goal.returns-in-Ok-bytes-clause-some
returns-in-Ok-bytes-clause-some c =
    reads_one c.args.bytes.now c.in-Ok-bytes.field-0.now c.new-reader.result c.u32.new.self c.bytes.new.self c.in-Ok.length (λ i. omega (arith, c.type_inv.bytes i)) c.new-reader.ensures c.in-Ok.ensures c.in-Ok-bytes.ensures
