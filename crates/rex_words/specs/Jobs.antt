-- What lanes' threads get and hand back.
use Rattle.std.specs.Prelude.{◌≡◌, ◌⊎◌, ℕ, ◌<◌, List, length, slice_index_or}
use Rattle.rex_words.specs.declared.seat.WordSeat.{WordSeat}
use Rattle.rex_words.specs.declared.table.Words.{Words}
use Rattle.rex_words.specs.Seats.{IsSeatOf}
use Rattle.rex_words.specs.Turns.{IsIdle, IsFull}
use Rattle.rex_words.specs.Tables.{IsWords, assignment_of, table_of}

-- the seat of a lane of these words
pub record IsJob (w : Words) (m : WordSeat) : Type 0 where
  pub words : IsWords w
  pub seat : IsSeatOf (assignment_of w) (table_of w) m

-- a lane's seat comes back over
pub record ComesBack (w : Words) (m n : WordSeat) : Type 0 where
  pub seat : IsSeatOf (assignment_of w) (table_of w) n
  pub lane : n.lane ≡ m.lane
  pub over : IsIdle (assignment_of w) n ⊎ IsFull (assignment_of w) n

-- so does each
abbrev pub AreOver : Words → List WordSeat → List WordSeat → Type 0
AreOver w ms ns = (k : ℕ) (m n : WordSeat) → k < length ms → ComesBack w (slice_index_or ms k m) (slice_index_or ns k n)
