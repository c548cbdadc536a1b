use Rattle.std.proofs.Common.{drop}
use Rattle.rex_record.proofs.Blocks.{TakesOn}
use Rattle.rex_record.proofs.recorder.Recorder.take_each.Given as goal

-- the remaining events lead where all lead
abbrev pub invariant-loop-event : goal.invariant-loop-event
invariant-loop-event l = TakesOn l.svc l.initial.self.value l.events l.self.value (drop l.event-index l.events) l.self.spare
