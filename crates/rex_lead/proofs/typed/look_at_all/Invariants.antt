use Rattle.std.proofs.Common.{take}
use Rattle.std.specs.List.{All}
use Rattle.rex_delta.specs.Spelling.{HasTypedKind}
use Rattle.rex_lead.proofs.typed.look_at_all.Given as goal

-- the events before this one were looked at
abbrev pub invariant-loop-event : goal.invariant-loop-event
invariant-loop-event l = record { looked : All HasTypedKind (take l.event-index l.events) }
