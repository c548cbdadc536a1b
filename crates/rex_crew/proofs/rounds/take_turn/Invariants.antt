use Rattle.std.proofs.Common.{◌-◌}
use Rattle.rex_board.specs.Boards.{recording_of, table_of}
use Rattle.rex_crew.specs.Rounds.{IsRunning}
use Rattle.rex_crew.proofs.rounds.take_turn.Given as goal

abbrev pub invariant-loop-me : goal.invariant-loop-me
invariant-loop-me g l = IsRunning (table_of l.board) (recording_of l.board) l.initial.me l.me l.done

abbrev pub decreases-loop-me : goal.decreases-loop-me
decreases-loop-me g l = 4294967296 - l.me.done
