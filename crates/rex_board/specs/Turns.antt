-- What a step on the board answers.
use Rattle.std.specs.Prelude.{◌≡◌, ℕ, ◌+◌, ◌<◌, ◌≤◌, List, length, take}
use mathlib.Core.Option.{some}
use lib.ListN.{get_elem?}
use Rattle.atomic_table.specs.Seated.{TableId}
use Rattle.rex_event.specs.Limits.{most_lanes}
use Rattle.rex_event.specs.declared.event.Event.{Event}
use Rattle.rex_event.specs.declared.delta.Cause.{Cause}
use Rattle.rex_event.specs.Order.{Has}
use Rattle.rex_event.specs.Cuts.{count_at, counted_all}
use Rattle.rex_state.specs.Counts.{counts_of}
use Rattle.rex_board.specs.declared.recording.Recording.{Recording}
use Rattle.rex_board.specs.declared.seat.LaneSeat.{LaneSeat}
use Rattle.rex_board.specs.declared.view.View.{View}
use Rattle.rex_board.specs.Moment.{guard}
use Rattle.rex_board.specs.Steps.{performed_view}
use Rattle.rex_board.specs.Places.{IsAtLane}
use Rattle.rex_board.specs.Recorded.{service_of, start_of, events_of, variables_in, IsEventAt, AreCausesOf, IsCovered}

-- ---- seats

-- how many lane words the seat loaded
abbrev pub loads_of : LaneSeat → ℕ
loads_of m = m.seat.me.0.loads

-- the lane has done its events before the place in the list, and no others
pub record IsPlaced (r : Recording) (lane done place : ℕ) : Type 0 where
  pub inside : place ≤ length (events_of r)
  pub done_is : done ≡ count_at (counted_all (counts_of (start_of r)) (take place (events_of r))) lane

-- the seat is of this table, and of a lane of the board that replays the recording: it has a copy of each variable, and stands at its lane's next event
pub record IsSeatOf (r : Recording) (z : TableId) (m : LaneSeat) : Type 0 where
  pub table : m.seat.table_id ≡ z
  pub key : m.seat.me.0.key ≡ r
  pub lane : m.lane < most_lanes
  pub there : m.lane < (service_of r).lanes
  pub small : m.done < 4294967296
  pub wide : length m.copies.items ≡ variables_in r
  pub placed : IsPlaced r m.lane m.done m.place
  pub next : IsAtLane (events_of r) m.lane m.place

-- the event is the lane's next one, and its causes are known to be done
pub record IsReady (r : Recording) (m : LaneSeat) (e : Event) : Type 0 where
  pub next : IsEventAt r m.lane m.done e
  pub covered : IsCovered r m.bounds e

-- the lane's next event
abbrev pub IsNext : Recording → LaneSeat → Event → Type 0
IsNext r m e = IsEventAt r m.lane m.done e

-- all events of the lane are done
pub record HasNoneLeft (r : Recording) (m : LaneSeat) : Type 0 where
  pub each : (e : Event) → Has e (events_of r) → e.lane ≡ m.lane → e.index < m.done

-- ---- before and after

-- the seat is the same, its lane did no fewer events, no bound fell, and no fewer loads were made
pub record IsLater (m m' : LaneSeat) : Type 0 where
  pub table : m'.seat.table_id ≡ m.seat.table_id
  pub seat : m'.seat.id ≡ m.seat.id
  pub key : m'.seat.me.0.key ≡ m.seat.me.0.key
  pub lane : m'.lane ≡ m.lane
  pub done : m.done ≤ m'.done
  pub bounds : (other : ℕ) → count_at m.bounds other ≤ count_at m'.bounds other
  pub loads : loads_of m ≤ loads_of m'

-- the lane and what its seat keeps of it stay but for bounds
pub record IsLooking (m m' : LaneSeat) : Type 0 where
  pub later : IsLater m m'
  pub done : m'.done ≡ m.done
  pub place : m'.place ≡ m.place
  pub frame : m'.frame ≡ m.frame
  pub copies : m'.copies ≡ m.copies

-- the lane and what its seat keeps of it stay but for copies and marks, of which none goes
pub record IsPreparing (m m' : LaneSeat) : Type 0 where
  pub table : m'.seat.table_id ≡ m.seat.table_id
  pub seat : m'.seat.id ≡ m.seat.id
  pub key : m'.seat.me.0.key ≡ m.seat.me.0.key
  pub lane : m'.lane ≡ m.lane
  pub done : m'.done ≡ m.done
  pub place : m'.place ≡ m.place
  pub bounds : m'.bounds ≡ m.bounds
  pub frame : m'.frame ≡ m.frame
  pub long : length m'.copies.items ≡ length m.copies.items
  pub loads : loads_of m' ≡ loads_of m
  pub loaded : (x : ℕ) → Has x m.seat.me.0.knows.loaded → Has x m'.seat.me.0.knows.loaded
  pub stored : (x : ℕ) → Has x m.seat.me.0.knows.stored → Has x m'.seat.me.0.knows.stored

-- each of the first n variables with this guard is marked as loaded
pub record AreLoaded (r : Recording) (m : LaneSeat) (lock n : ℕ) : Type 0 where
  pub each : (x : ℕ) → x < n → guard r x ≡ lock → Has x m.seat.me.0.knows.loaded

-- the same of those that are stored
pub record AreStored (r : Recording) (m : LaneSeat) (lock n : ℕ) : Type 0 where
  pub each : (x : ℕ) → x < n → guard r x ≡ lock → Has x m.seat.me.0.knows.stored

-- ---- answers

-- a load of this call, which the seat notes and counts, found `seen` events of the cause's lane done, at least what was known, and the cause is not among them
pub record IsMissing (m m' : LaneSeat) (c : Cause) (seen : ℕ) : Type 0 where
  pub missing : seen ≤ c.index
  pub known : count_at m.bounds c.lane ≤ seen
  pub counted : loads_of m < loads_of m'
  pub noted : (m'.seat.me.0.noted_lane ≡ c.lane) × (m'.seat.me.0.noted ≡ seen)

-- a cause stands in a list, and those before it there lie below the counts
pub record IsFirstMissing (counts : List ℕ) (causes : List Cause) (c : Cause) : Type 0 where
  pub place : ℕ
  pub at : get_elem? causes place ≡ some c
  pub before : (k : ℕ) (d : Cause) → k < place → get_elem? causes k ≡ some d → d.index < count_at counts d.lane

-- the seat's view is what the store of the lane's word that does the event makes of a view before it
pub record IsStore (m' : LaneSeat) (e : Event) : Type 0 where
  pub before : View
  pub after : m'.seat.me.0 ≡ performed_view before e

-- the lane's next event was done, by one store of the lane's word, and its causes were known to be done
pub record IsDone (r : Recording) (m m' : LaneSeat) (e : Event) : Type 0 where
  pub next : IsNext r m e
  pub covered : IsCovered r m'.bounds e
  pub one_more : m'.done ≡ m.done + 1
  pub store : IsStore m' e

-- a cause of the lane's next event is missing, the first in their list that is, and the lane stays
pub record IsBlocked (r : Recording) (m m' : LaneSeat) (c : Cause) (seen : ℕ) : Type 0 where
  pub event : Event
  pub next : IsNext r m event
  pub causes : List Cause
  pub are : AreCausesOf r event causes
  pub cause : Has c causes
  pub first : IsFirstMissing m'.bounds causes c
  pub missing : IsMissing m m' c seen
  pub same : m'.done ≡ m.done
