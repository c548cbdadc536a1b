use Rattle.std.proofs.Common.{length}
use Rattle.rex_board.specs.Boards.{recording_of, table_of}
use Rattle.rex_board.specs.Dealing.{AreDealt}
use Rattle.rex_tests.proofs.board.do_in_order.Given as goal

abbrev pub invariant-loop-lane : goal.invariant-loop-lane
invariant-loop-lane g l = AreDealt (recording_of l.board) (table_of l.board) (length l.initial.seats) l.seats
