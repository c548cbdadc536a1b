use Rattle.std.proofs.Common.{◌≡◌, ◌<◌, ℕ, length, get_or}
use Rattle.rex_board.specs.declared.seat.LaneSeat.{LaneSeat}
use Rattle.rex_board.specs.Turns.{HasNoneLeft}
use Rattle.rex_board.specs.Boards.{recording_of, table_of}
use Rattle.rex_board.specs.Dealing.{AreDealt}
use Rattle.rex_tests.proofs.board.are_finished.Given as goal

abbrev pub invariant-loop-lane : goal.invariant-loop-lane
invariant-loop-lane l = record {
  dealt : AreDealt (recording_of l.board) (table_of l.board) (length l.initial.seats) l.seats;
  long : length l.seats ≡ length l.initial.seats;
  none : (k : ℕ) (d : LaneSeat) → k < l.lane → HasNoneLeft (recording_of l.board) (get_or l.seats k d);
}
