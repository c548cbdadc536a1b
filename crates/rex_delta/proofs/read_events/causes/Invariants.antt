use Rattle.std.proofs.Common.{◌≡◌, ◌-◌}
use Rattle.rex_wire.proofs.Repeated.{with_front}
use Rattle.rex_wire.proofs.Lists.{joined}
use Rattle.rex_delta.specs.Reading.{causes_at}
use Rattle.rex_delta.proofs.read_events.causes.Given as goal

abbrev pub invariant-loop : goal.invariant-loop
invariant-loop l = with_front joined l.causes (causes_at l.bases l.counts l.lane (l.count - l.counter) l.above l.reader) ≡ causes_at l.bases l.counts l.lane l.count 0 l.fn.reader
