use Rattle.rex_board.specs.Boards.{recording_of, table_of}
use Rattle.rex_crew.specs.Rounds.{AreSameLanes}
use Rattle.rex_crew.proofs.complete.go_on.Given as goal

abbrev pub invariant-loop : goal.invariant-loop
invariant-loop l = AreSameLanes (table_of l.board) (recording_of l.board) l.initial.seats l.seats
