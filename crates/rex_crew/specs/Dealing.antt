-- How seats are dealt to workers, and gathered again.
use Rattle.std.specs.Prelude.{◌≡◌, ◌⊎◌, ℕ, ◌%◌, ◌<◌, ◌≤◌, List}
use Rattle.std.specs.declared.vec.Vec.{Vec}
use Rattle.std.specs.declared.alloc.Global.{Global}
use Rattle.atomic_table.specs.Seated.{TableId}
use Rattle.rex_event.specs.Order.{Has}
use Rattle.rex_board.specs.declared.recording.Recording.{Recording}
use Rattle.rex_board.specs.declared.seat.LaneSeat.{LaneSeat}
use Rattle.rex_board.specs.Recorded.{service_of}
use Rattle.rex_crew.specs.declared.dealing.Job.{Job}
use Rattle.rex_crew.specs.Rounds.{AreSeatsOf}

-- all are seats of the board, and each lane has one among them
pub record AreAllSeats (z : TableId) (r : Recording) (ms : List LaneSeat) : Type 0 where
  pub seats : AreSeatsOf z r ms
  pub every : (lane : ℕ) → lane < (service_of r).lanes → (m : LaneSeat) × Has m ms × (m.lane ≡ lane)

-- the lane of the seat is the worker's, one of n
abbrev pub IsOwn : ℕ → ℕ → LaneSeat → Type 0
IsOwn n worker m = m.lane % n ≡ worker

-- of some seats a rest is left; of the others own has those of the worker's lanes, and others has those that aren't
pub record IsSplit (n worker : ℕ) (ms rest own others : List LaneSeat) : Type 0 where
  pub left : (m : LaneSeat) → Has m rest → Has m ms
  pub is_own : (m : LaneSeat) → Has m own → Has m ms × IsOwn n worker m
  pub is_other : (m : LaneSeat) → Has m others → Has m ms × (IsOwn n worker m → ⊥)
  pub every : (m : LaneSeat) → Has m ms → Has m rest ⊎ (Has m own ⊎ Has m others)

-- the jobs of the first k of n workers have the seats of their lanes, and a rest has the seats of the others
pub record AreJobsSoFar (n k : ℕ) (ms rest : List LaneSeat) (js : List Job) : Type 0 where
  pub left : (m : LaneSeat) → Has m rest → Has m ms × (k ≤ m.lane % n)
  pub own : (j : Job) (m : LaneSeat) → Has j js → Has m j.seats.items → Has m ms × IsOwn n j.worker m
  pub every : (m : LaneSeat) → Has m ms → Has m rest ⊎ ((j : Job) × Has j js × Has m j.seats.items)

-- each job has seats of its worker's lanes, one of n, and each of the seats is in a job
pub record AreJobs (n : ℕ) (ms : List LaneSeat) (js : List Job) : Type 0 where
  pub own : (j : Job) (m : LaneSeat) → Has j js → Has m j.seats.items → Has m ms × IsOwn n j.worker m
  pub every : (m : LaneSeat) → Has m ms → (j : Job) × Has j js × Has m j.seats.items

-- of what was handed back a rest is left; the seats of the others are gathered
pub record AreGathered (vs rest : List (Vec LaneSeat Global)) (ms : List LaneSeat) : Type 0 where
  pub left : (v : Vec LaneSeat Global) → Has v rest → Has v vs
  pub each : (m : LaneSeat) → Has m ms → (v : Vec LaneSeat Global) × Has v vs × Has m v.items
  pub every : (v : Vec LaneSeat Global) (m : LaneSeat) → Has v vs → Has m v.items → Has v rest ⊎ Has m ms
