use Rattle.std.proofs.Common.{drop}
use Rattle.rex_tests.proofs.Boards.{Goes}
use Rattle.rex_tests.proofs.board.apply_all.Given as goal

-- the remaining events lead where all lead
abbrev pub invariant-loop-event : goal.invariant-loop-event
invariant-loop-event l = Goes l.svc l.initial.state l.events l.state (drop l.event-index l.events)
