use Rattle.std.proofs.Common.{◌≡◌, ◌-◌}
use Rattle.rex_wire.proofs.Repeated.{with_front}
use Rattle.rex_delta.specs.Reading.{causes_at}
use Rattle.rex_delta.specs.Parts.{passed}
use Rattle.rex_delta.proofs.Passing.{neither}
use Rattle.rex_delta.proofs.pass_events.pass_causes.Given as goal

abbrev pub invariant-loop : goal.invariant-loop
invariant-loop l = with_front neither tt (passed (causes_at l.bases l.counts l.lane (l.count - l.counter) l.above l.reader)) ≡ passed (causes_at l.bases l.counts l.lane l.count 0 l.fn.reader)
