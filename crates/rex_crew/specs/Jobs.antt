-- What workers get and hand back.
use Rattle.std.specs.Prelude.{ℕ, ◌<◌, List, length, slice_index_or}
use Rattle.std.specs.declared.vec.Vec.{Vec}
use Rattle.std.specs.declared.alloc.Global.{Global}
use Rattle.rex_board.specs.declared.board.Board.{Board}
use Rattle.rex_board.specs.declared.seat.LaneSeat.{LaneSeat}
use Rattle.rex_board.specs.Boards.{IsBoard, recording_of, table_of}
use Rattle.rex_crew.specs.declared.dealing.Job.{Job}
use Rattle.rex_crew.specs.Rounds.{AreSeatsOf}
use Rattle.rex_crew.specs.Work.{IsHandedBack}

-- the seats of a job are the board's
pub record IsJob (b : Board) (j : Job) : Type 0 where
  pub board : IsBoard b
  pub seats : AreSeatsOf (table_of b) (recording_of b) j.seats.items

-- the seats of each job are handed back
abbrev pub AllHandedBack : Board → List Job → List (Vec LaneSeat Global) → Type 0
AllHandedBack b js vs = (k : ℕ) (j : Job) (v : Vec LaneSeat Global) → k < length js → IsHandedBack (table_of b) (recording_of b) (slice_index_or js k j).seats.items (slice_index_or vs k v).items
