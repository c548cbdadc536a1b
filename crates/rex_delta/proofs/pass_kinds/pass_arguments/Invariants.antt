use Rattle.std.proofs.Common.{◌≡◌, ◌-◌}
use Rattle.rex_wire.proofs.Repeated.{with_front}
use Rattle.rex_delta.specs.Reading.{arguments_at}
use Rattle.rex_delta.specs.Parts.{passed}
use Rattle.rex_delta.proofs.Passing.{neither}
use Rattle.rex_delta.proofs.pass_kinds.pass_arguments.Given as goal

abbrev pub invariant-loop : goal.invariant-loop
invariant-loop l = with_front neither tt (passed (arguments_at (l.count - l.counter) l.reader)) ≡ passed (arguments_at l.count l.fn.reader)
