-- What a round over some seats of a board does.
use Rattle.std.specs.Prelude.{◌≡◌, ◌⊎◌, ℕ, ◌+◌, ◌<◌, ◌≤◌, Bool, true, List, map, sum_by}
use mathlib.Core.Option.{some}
use lib.ListN.{get_elem?}
use Rattle.atomic_table.specs.Seated.{TableId}
use Rattle.rex_event.specs.declared.event.Event.{Event}
use Rattle.rex_event.specs.declared.delta.Cause.{Cause}
use Rattle.rex_event.specs.Order.{Has}
use Rattle.rex_board.specs.declared.recording.Recording.{Recording}
use Rattle.rex_board.specs.declared.seat.LaneSeat.{LaneSeat}
use Rattle.rex_board.specs.Recorded.{AreCausesOf}
use Rattle.rex_board.specs.Turns.{loads_of, IsSeatOf, IsLater, IsNext, HasNoneLeft}

-- the lane of a seat
abbrev pub lane_of : LaneSeat → ℕ
lane_of m = m.lane

-- how many events the lane of a seat did
abbrev pub done_of : LaneSeat → ℕ
done_of m = m.done

-- all are seats of the board
abbrev pub AreSeatsOf : TableId → Recording → List LaneSeat → Type 0
AreSeatsOf z r ms = (k : ℕ) (m : LaneSeat) → get_elem? ms k ≡ some m → IsSeatOf r z m

-- they are seats of the board, and of the same lanes as those
pub record AreSameLanes (z : TableId) (r : Recording) (ms ms' : List LaneSeat) : Type 0 where
  pub seats : AreSeatsOf z r ms'
  pub lanes : map lane_of ms' ≡ map lane_of ms

-- the lane of each seat has no event left
abbrev pub AreFinished : Recording → List LaneSeat → Type 0
AreFinished r ms = (k : ℕ) (m : LaneSeat) → get_elem? ms k ≡ some m → HasNoneLeft r m

-- the load that a seat notes was made since then, and shows that a cause of the lane's next event is missing
pub record IsStuck (r : Recording) (m m' : LaneSeat) : Type 0 where
  pub event : Event
  pub next : IsNext r m' event
  pub causes : List Cause
  pub are : AreCausesOf r event causes
  pub cause : Cause
  pub is_cause : Has cause causes
  pub counted : loads_of m < loads_of m'
  pub noted : (m'.seat.me.0.noted_lane ≡ cause.lane) × (m'.seat.me.0.noted ≤ cause.index)

-- each seat is finished, or stuck since then
abbrev pub AreFinishedOrStuck : Recording → List LaneSeat → List LaneSeat → Type 0
AreFinishedOrStuck r ms ms' = (k : ℕ) (m m' : LaneSeat) → get_elem? ms k ≡ some m → get_elem? ms' k ≡ some m' → HasNoneLeft r m' ⊎ IsStuck r m m'

-- a seat did events since then, or none
pub record IsRunning (z : TableId) (r : Recording) (m m' : LaneSeat) (done : Bool) : Type 0 where
  pub seat : IsSeatOf r z m'
  pub later : IsLater m m'
  pub more : done ≡ true → done_of m < done_of m'

-- a seat had its turn, in which events were done or none, and which ended blocked or not
pub record IsTurn (z : TableId) (r : Recording) (m m' : LaneSeat) (done : Bool) (blocked : ℕ) : Type 0 where
  pub seat : IsSeatOf r z m'
  pub later : IsLater m m'
  pub more : done ≡ true → done_of m < done_of m'
  pub counted : loads_of m + blocked ≤ loads_of m'
  pub stuck : HasNoneLeft r m' ⊎ IsStuck r m m'
  pub finished : blocked ≡ 0 → HasNoneLeft r m'
  pub few : blocked ≤ 1

-- each of the first n seats had its turn, and the rest are as they were
pub record IsSoFar (z : TableId) (r : Recording) (ms ms' : List LaneSeat) (n : ℕ) (done : Bool) (blocked : ℕ) : Type 0 where
  pub seats : AreSeatsOf z r ms'
  pub lanes : map lane_of ms' ≡ map lane_of ms
  pub counted : sum_by loads_of ms + blocked ≤ sum_by loads_of ms'
  pub performed : sum_by done_of ms ≤ sum_by done_of ms'
  pub more : done ≡ true → sum_by done_of ms < sum_by done_of ms'
  pub rest : (k : ℕ) → n ≤ k → get_elem? ms' k ≡ get_elem? ms k
  pub rises : (k : ℕ) (m m' : LaneSeat) → get_elem? ms k ≡ some m → get_elem? ms' k ≡ some m' → IsLater m m'
  pub stuck : (k : ℕ) (m m' : LaneSeat) → k < n → get_elem? ms k ≡ some m → get_elem? ms' k ≡ some m' → HasNoneLeft r m' ⊎ IsStuck r m m'
  pub finished : blocked ≡ 0 → (k : ℕ) (m : LaneSeat) → k < n → get_elem? ms' k ≡ some m → HasNoneLeft r m
  pub few : blocked ≤ n

-- each of the seats had its turn
pub record IsRound (z : TableId) (r : Recording) (ms ms' : List LaneSeat) (done : Bool) (blocked : ℕ) : Type 0 where
  pub seats : AreSeatsOf z r ms'
  pub lanes : map lane_of ms' ≡ map lane_of ms
  pub counted : sum_by loads_of ms + blocked ≤ sum_by loads_of ms'
  pub performed : sum_by done_of ms ≤ sum_by done_of ms'
  pub more : done ≡ true → sum_by done_of ms < sum_by done_of ms'
  pub rises : (k : ℕ) (m m' : LaneSeat) → get_elem? ms k ≡ some m → get_elem? ms' k ≡ some m' → IsLater m m'
  pub stuck : AreFinishedOrStuck r ms ms'
  pub finished : blocked ≡ 0 → AreFinished r ms'
