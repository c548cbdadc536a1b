use Rattle.std.proofs.Common.{drop}
use Rattle.rex_replay.proofs.Replays.{Replays}
use Rattle.rex_crew.proofs.alone.do_all.Given as goal

-- the remaining events lead where all lead
abbrev pub invariant-loop-event : goal.invariant-loop-event
invariant-loop-event g l = Replays l.svc l.initial.state l.events l.state (drop l.event-index l.events)
