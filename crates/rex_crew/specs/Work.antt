-- What a worker does with the seats that it was given.
use Rattle.std.specs.Prelude.{◌≡◌, ◌⊎◌, ℕ, ◌+◌, ◌*◌, ◌≤◌, List, length, map, sum_by}
use mathlib.Core.Option.{some}
use lib.ListN.{get_elem?}
use Rattle.atomic_table.specs.Seated.{TableId}
use Rattle.rex_board.specs.declared.recording.Recording.{Recording}
use Rattle.rex_board.specs.declared.seat.LaneSeat.{LaneSeat}
use Rattle.rex_board.specs.Turns.{loads_of, IsLater}
use Rattle.rex_crew.specs.Rounds.{lane_of, done_of, AreSeatsOf, AreFinished, AreFinishedOrStuck}

-- the seats of just these lanes are handed back: each is finished; or each is finished or stuck, after they loaded lane words at least 1,024 times together
pub record IsHandedBack (z : TableId) (r : Recording) (ms ms' : List LaneSeat) : Type 0 where
  pub seats : AreSeatsOf z r ms'
  pub lanes : map lane_of ms' ≡ map lane_of ms
  pub turned : AreFinished r ms' ⊎ (AreFinishedOrStuck r ms ms' × (sum_by loads_of ms + 1024 ≤ sum_by loads_of ms'))

-- more events than lanes of so many seats ever do
abbrev pub room_of : List LaneSeat → ℕ
room_of ms = length ms * 4294967296

-- between two rounds, after so many blocked turns with no event done between them
pub record IsWorking (z : TableId) (r : Recording) (ms ms' : List LaneSeat) (blocked : ℕ) : Type 0 where
  pub seats : AreSeatsOf z r ms'
  pub lanes : map lane_of ms' ≡ map lane_of ms
  pub rises : (k : ℕ) (m m' : LaneSeat) → get_elem? ms k ≡ some m → get_elem? ms' k ≡ some m' → IsLater m m'
  pub counted : sum_by loads_of ms + blocked ≤ sum_by loads_of ms'
  pub stuck : (blocked ≡ 0) ⊎ AreFinishedOrStuck r ms ms'
  pub room : sum_by done_of ms' ≤ room_of ms'
