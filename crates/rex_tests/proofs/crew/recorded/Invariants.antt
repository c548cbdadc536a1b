use Rattle.rex_record.specs.Kept.{IsRecorder}
use Rattle.rex_tests.proofs.crew.recorded.Given as goal

abbrev pub invariant-loop-handler : goal.invariant-loop-handler
invariant-loop-handler g l = IsRecorder l.svc l.recorder.value

abbrev pub invariant-loop-lane : goal.invariant-loop-lane
invariant-loop-lane g l = IsRecorder l.svc l.recorder.value
