-- What lanes recorded, once all their seats are handed back.
use Rattle.std.specs.Prelude.{◌≡◌, ◌≢◌, ◌⊎◌, ℕ, ◌+◌, ◌-◌, ◌<◌, ◌≤◌, ◌++◌, false, List, [], ◌∷◌, length, slice_get, slice_index_or, drop, take, Option, None, Some}
use mathlib.Core.Option.{some}
use lib.ListN.{get_elem?}
use Rattle.atomic_table.specs.Seated.{TableId}
use Rattle.atomic_table.specs.declared.shared.Seat.{Seat}
use Rattle.rex_event.specs.declared.event.Event.{Event}
use Rattle.rex_event.specs.declared.event.Kind.{Kind}
use Rattle.rex_event.specs.Order.{Has}
use Rattle.rex_state.specs.Value.{StateValue}
use Rattle.rex_state.specs.Machine.{frame_at, run}
use Rattle.rex_state.specs.Start.{start_of}
use Rattle.rex_words.specs.declared.assignment.Assignment.{Assignment}
use Rattle.rex_words.specs.declared.stamped.Stamped.{Stamped}
use Rattle.rex_words.specs.declared.seat.WordSeat.{WordSeat}
use Rattle.rex_words.specs.declared.view.Gathered.{Gathered}
use Rattle.rex_words.specs.declared.view.Knowledge.{Knowledge}
use Rattle.rex_words.specs.declared.view.View.{View}
use Rattle.rex_words.specs.declared.view.Role.TheVariants.{Host}
use Rattle.rex_words.specs.Stamps.{IsInOrder, comes_before, events_in, lane_list}
use Rattle.rex_words.specs.Alone.{service_of, lane_requests, begun_in, begin_next, AreTold, DoAlone, IsQuiet}
use Rattle.rex_words.specs.Own.{IsOwn}
use Rattle.rex_words.specs.Seats.{IsSeatOf}
use Rattle.rex_words.specs.Turns.{IsIdle, IsFull}
use Rattle.rex_words.specs.Dealing.{IsAssignmentOf}
use Rattle.rex_words.specs.declared.limits.TheConstants.{LANE_EVENTS, IDLE_EVENTS, ALL_EVENTS}
use Rattle.rex_syntax.specs.declared.service.Declarations.{Declarations}
use Rattle.rex_syntax.specs.declared.request.Request.{Request}

-- the seat of a lane
pub record IsSeatAt (r : Assignment) (z : TableId) (lane : ℕ) (m : WordSeat) : Type 0 where
  pub seat : IsSeatOf r z m
  pub lane_is : m.lane ≡ lane

-- the seats of the first n lanes, in their order
pub record AreSeats (r : Assignment) (z : TableId) (n : ℕ) (seats : List WordSeat) : Type 0 where
  pub count : length seats ≡ n
  pub each : (lane : ℕ) (d : WordSeat) → lane < n → IsSeatAt r z lane (slice_index_or seats lane d)

-- the events of the seats' lanes, in order of stamp and then of lane, no more than all lanes may have: they say what they should, and run from the service's
-- start to a state with which each seat's own state agrees
pub record IsHistoryOf (r : Assignment) (seats : List WordSeat) (history : List Event) : Type 0 where
  pub list : List Stamped
  pub order : IsInOrder list
  pub events : events_in list ≡ history
  pub state : StateValue
  pub runs : run (service_of r) (start_of (service_of r)) history ≡ Some state
  pub short : length history ≤ ALL_EVENTS
  pub lanes : (x : Stamped) → Has x list → x.event.lane < (service_of r).lanes
  pub mine : (lane : ℕ) (d : WordSeat) → lane < (service_of r).lanes → lane_list list lane ≡ (slice_index_or seats lane d).events.items
  pub told : (lane : ℕ) → lane < (service_of r).lanes → AreTold r lane (lane_list list lane)
  pub own : (lane : ℕ) (d : WordSeat) → lane < (service_of r).lanes → IsOwn (service_of r) lane (slice_index_or seats lane d).state state

-- ---- runs of all lanes

-- the seat of a lane that is idle with no request that may begin, or has too many events to begin one
pub record IsOver (r : Assignment) (z : TableId) (lane : ℕ) (m : WordSeat) : Type 0 where
  pub at : IsSeatAt r z lane m
  pub over : IsIdle r m ⊎ IsFull r m

-- the begin of a lane's next request behind its events, where there is one that may begin in this state of all lanes
abbrev pub open_in : Assignment → StateValue → ℕ → List Stamped → Option Kind
open_in r s lane list = begin_next (service_of r) lane s (slice_get (lane_requests r lane) (begun_in list))

-- in this state of all lanes a lane that did these events is over: it is idle, and has no request that may begin, or one but more events than an idle lane may have that begins it
pub record HasEnded (r : Assignment) (s : StateValue) (lane : ℕ) (list : List Stamped) : Type 0 where
  pub idle : frame_at s lane ≡ None
  pub over : (open_in r s lane list ≡ None) ⊎ ((open_in r s lane list ≢ None) × (IDLE_EVENTS < length list))

-- lanes of the service recorded this history of the requests, and each is over, in the state to which the history runs
pub record IsRecording (service : Declarations) (requests : List Request) (seed : ℕ) (history : List Event) : Type 0 where
  pub assignment : Assignment
  pub of : IsAssignmentOf assignment service requests seed
  pub seats : List WordSeat
  pub table : TableId
  pub recorded : IsHistoryOf assignment seats history
  pub over : (lane : ℕ) (d : WordSeat) → lane < service.lanes → IsOver assignment table lane (slice_index_or seats lane d)
  pub ends : (lane : ℕ) → lane < service.lanes → HasEnded assignment recorded.state lane (lane_list recorded.list lane)

-- ---- lists of lanes, the last lane's first

-- a list's events are those of its lane in one list in order, which has no others
pub record IsMerged (lists : List (List Stamped)) (whole : List Stamped) : Type 0 where
  pub order : IsInOrder whole
  pub each : (lane : ℕ) → lane < length lists → slice_index_or lists (length lists - (lane + 1)) [] ≡ lane_list whole lane
  pub lanes : (x : Stamped) → Has x whole → x.event.lane < length lists

-- these are the events of such a list, without their stamps
pub record IsMergeOf (lists : List (List Stamped)) (events : List Event) : Type 0 where
  pub whole : List Stamped
  pub merged : IsMerged lists whole
  pub events_are : events ≡ events_in whole

-- the next event of a list, from its place on
abbrev pub next_of : List (List Stamped) → List ℕ → ℕ → Stamped → Stamped
next_of lists places index x = slice_index_or (slice_index_or lists index []) (slice_index_or places index 0) x

-- a list has a next event
abbrev pub HasNext : List (List Stamped) → List ℕ → ℕ → Type 0
HasNext lists places index = slice_index_or places index 0 < length (slice_index_or lists index [])

-- a list has a next event, and of the first n lists none has one that comes before it
pub record IsFirstList (lists : List (List Stamped)) (places : List ℕ) (n index : ℕ) : Type 0 where
  pub within : index < n
  pub there : HasNext lists places index
  pub first : (other : ℕ) (x y : Stamped) → other < n → HasNext lists places other → comes_before (next_of lists places other x) (next_of lists places index y) ≡ false

-- of the first n lists this one goes first; where there is none, all of them are at their ends
abbrev pub IsFirstOf : List (List Stamped) → List ℕ → ℕ → Option ℕ → Type 0
IsFirstOf lists places n (Some index) = IsFirstList lists places n index
IsFirstOf lists places n None = (other : ℕ) → other < n → HasNext lists places other → ⊥

-- these events are merged, and from their places on the lists have what is left
pub record IsMerging (lists : List (List Stamped)) (places : List ℕ) (events : List Event) : Type 0 where
  pub done : List Stamped
  pub rest : List Stamped
  pub merged : IsMerged lists (done ++ rest)
  pub events_are : events ≡ events_in done
  pub count : length places ≡ length lists
  pub left : (index : ℕ) → index < length lists → drop (slice_index_or places index 0) (slice_index_or lists index []) ≡ lane_list rest (length lists - (index + 1))

-- how many events the lists have from their places on
abbrev pub left_in : List (List Stamped) → List ℕ → ℕ
left_in [] places = 0
left_in (list ∷ lists) [] = 0
left_in (list ∷ lists) (place ∷ places) = length list - place + left_in lists places

-- ---- the host takes in the seats

abbrev pub HostSeat : Type 0
HostSeat = Seat (Unit {0}) View

-- the host's seat is still the host's
pub record IsGathering (r : Assignment) (z : TableId) (s : HostSeat) : Type 0 where
  pub table : s.table_id ≡ z
  pub role : s.me.0.role ≡ Host
  pub key : s.me.0.key ≡ r
  pub empty : s.me.1 ≡ []

-- what a seat's view said was taken in, and its lane's list is this; with what the lane did by itself since, its own state is that of its seat
pub record IsCollected (r : Assignment) (gathered : List Gathered) (seats : List WordSeat) (lane : ℕ) (list : List Stamped) : Type 0 where
  pub place : ℕ
  pub known : Gathered
  pub at : get_elem? gathered place ≡ some known
  pub lane_is : known.lane ≡ lane
  pub held : List Event
  pub now : Knowledge
  pub does : DoAlone r lane known.knows held now
  pub quiet : (e : Event) → Has e held → IsQuiet (service_of r) e
  pub list_is : now.list ≡ list
  pub own_is : (d : WordSeat) → now.own ≡ (slice_index_or seats lane d).state
  pub few : length list ≤ LANE_EVENTS
  pub told : AreTold r lane list

-- the seats of the lanes from n on were taken in, and the lists are theirs
pub record AreCollected (r : Assignment) (gathered : List Gathered) (n : ℕ) (seats : List WordSeat) (lists : List (List Stamped)) : Type 0 where
  pub count : length lists + n ≡ length seats
  pub each : (lane : ℕ) → n ≤ lane → lane < length seats → IsCollected r gathered seats lane (slice_index_or lists (length seats - (lane + 1)) [])
  pub same : (lane : ℕ) (d : WordSeat) → n ≤ lane → lane < length seats → slice_index_or lists (length seats - (lane + 1)) [] ≡ (slice_index_or seats lane d).events.items

-- all were
abbrev pub AreGathered : Assignment → List Gathered → List WordSeat → List (List Stamped) → Type 0
AreGathered r gathered seats lists = AreCollected r gathered 0 seats lists

-- the first seats are left, and those behind them were taken in
pub record IsCollecting (r : Assignment) (z : TableId) (s : HostSeat) (all left : List WordSeat) (lists : List (List Stamped)) : Type 0 where
  pub gathering : IsGathering r z s
  pub seats : AreSeats r z (length all) all
  pub front : left ≡ take (length left) all
  pub few : length left ≤ length all
  pub collected : AreCollected r s.me.0.gathered (length left) all lists
