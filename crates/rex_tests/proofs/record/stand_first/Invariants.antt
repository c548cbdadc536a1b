use Rattle.std.proofs.Common.{◌≡◌, true, drop}
use Rattle.rex_tests.proofs.Fronts.{stand_first}
use Rattle.rex_tests.proofs.record.stand_first.Given as goal

abbrev pub invariant-loop-event : goal.invariant-loop-event
invariant-loop-event l = stand_first l.cut.counts true l.events ≡ stand_first l.cut.counts l.is_front (drop l.event-index l.events)
