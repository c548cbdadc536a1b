-- What a lane's seat keeps beside its view.
use Rattle.std.specs.Prelude.{◌≡◌, ℕ, ℤ, List, [], Option}
use Rattle.atomic_table.specs.declared.shared.Seat.{Seat}
use Rattle.rex_frame.specs.declared.frame.Frame.{Frame}
use Rattle.rex_board.specs.declared.view.View.{View}
use Rattle.rex_board.specs.declared.view.Role.TheVariants.{Lane}

abbrev pub BoardSeat : Type 0
BoardSeat = Seat (Unit {0}) View

-- the view of a lane's seat says what the seat keeps
pub record IsSeated (s : BoardSeat) (lane done : ℕ) (bounds : List ℕ) (frame : Option Frame) (copies : List ℤ) : Type 0 where
  pub role : s.me.0.role ≡ Lane
  pub lane_is : s.me.0.lane ≡ lane
  pub done_is : s.me.0.knows.done ≡ done
  pub bounds_are : s.me.0.knows.bounds ≡ bounds
  pub frame_is : s.me.0.knows.frame ≡ frame
  pub copies_are : s.me.0.knows.copies ≡ copies
  pub empty : s.me.1 ≡ []
