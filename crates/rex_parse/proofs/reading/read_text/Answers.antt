use Rattle.std.proofs.Common.{arith}
use Rattle.rex_parse.proofs.Numbering.{number_fits}
use Rattle.rex_parse.proofs.reading.read_text.Goals as goal

pub overflow_add-next : goal.overflow_add-next
overflow_add-next c = let h = number_fits c.loop-next.lines.number c.loop-next.lines.rest.now (c.in-Some.number, c.in-Some.line.now) _ c.in-Some.ensures.steps c.loop-next.invariant.can in omega arith
