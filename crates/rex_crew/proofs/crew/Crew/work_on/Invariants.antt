use Rattle.std.proofs.Common.{◌-◌, ◌+◌, ◌*◌, sum_by}
use Rattle.rex_board.specs.Boards.{recording_of, table_of}
use Rattle.rex_crew.specs.Rounds.{done_of}
use Rattle.rex_crew.specs.Work.{IsWorking, room_of}
use Rattle.rex_crew.proofs.crew.Crew.work_on.Given as goal

abbrev pub invariant-loop-blocked : goal.invariant-loop-blocked
invariant-loop-blocked g l = IsWorking (table_of l.board) (recording_of l.board) l.initial.seats l.seats l.blocked

abbrev pub decreases-loop-blocked : goal.decreases-loop-blocked
decreases-loop-blocked g l = (room_of l.seats - sum_by done_of l.seats) * 18446744073709551616 + (18446744073709551616 - l.blocked)
