-- What a step on the words answers.
use Rattle.std.specs.Prelude.{◌≡◌, ◌≢◌, ℕ, ◌+◌, ◌<◌, ◌≤◌, ◌++◌, ◌||◌, Bool, true, false, [], ◌∷◌, length, slice_get, Option, Some, None}
use Rattle.atomic_table.specs.Seated.{TableId}
use Rattle.rex_syntax.specs.declared.line.Line.{Line}
use Rattle.rex_frame.specs.declared.frame.Frame.{Frame}
use Rattle.rex_event.specs.declared.event.Event.{Event}
use Rattle.rex_event.specs.declared.event.Kind.{Kind}
use Rattle.rex_event.specs.declared.event.Kind.TheVariants.{AcqEx, RelEx, TryOk, TryBusy}
use Rattle.rex_event.specs.Order.{Has}
use Rattle.rex_state.specs.Lines.{line_of, is_acquire, is_release, is_try}
use Rattle.rex_state.specs.Machine.{frame_at, next}
use Rattle.rex_state.specs.Sound.{mode_at}
use Rattle.rex_syntax.specs.declared.locks.Mode.TheVariants.{Free}
use Rattle.rex_record.specs.Turn.{event_at}
use Rattle.rex_words.specs.declared.assignment.Assignment.{Assignment}
use Rattle.rex_words.specs.declared.seat.WordSeat.{WordSeat}
use Rattle.rex_words.specs.declared.table.WordTurn.{WordTurn}
use Rattle.rex_words.specs.declared.table.WordTurn.TheVariants.{Done, Held, Again, Idle, Full}
use Rattle.rex_words.specs.declared.view.Role.TheVariants.{Lane}
use Rattle.rex_words.specs.Words.{stamp_in, owner_in}
use Rattle.rex_words.specs.Alone.{service_of, begin_next}
use Rattle.rex_words.specs.Moment.{guard, locks_in}
use Rattle.rex_words.specs.Seats.{IsLaneOf, IsSeatOf}
use Rattle.rex_words.specs.declared.limits.TheConstants.{IDLE_EVENTS, OTHER_EVENTS}

-- ---- seats between steps on words

-- the seat holds no event that its view doesn't have
pub record IsSettled (r : Assignment) (z : TableId) (m : WordSeat) : Type 0 where
  pub table : m.seat.table_id ≡ z
  pub key : m.seat.me.0.key ≡ r
  pub role : m.seat.me.0.role ≡ Lane
  pub lane_is : m.seat.me.0.lane ≡ m.lane
  pub empty : m.seat.me.1 ≡ []
  pub lane : IsLaneOf r m
  pub list : m.seat.me.0.knows.list ≡ m.events.items
  pub own : m.seat.me.0.knows.own ≡ m.state

-- an event on a lock
abbrev pub is_on_lock : Kind → Bool
is_on_lock (AcqEx lock) = true
is_on_lock (RelEx lock) = true
is_on_lock (TryOk lock) = true
is_on_lock (TryBusy lock) = true
is_on_lock _ = false

-- the lane is busy, and stands at a line of this kind with this lock
pub record StandsAt (r : Assignment) (m : WordSeat) (is_at : Line → ℕ → Bool) (lock : ℕ) : Type 0 where
  pub frame : Frame
  pub busy : frame_at m.state m.lane ≡ Some frame
  pub at : is_at (line_of (service_of r) frame) lock ≡ true

-- how many loads of lock words the seat made, and how many of its exchanges failed
abbrev pub loads_of : WordSeat → ℕ
loads_of m = m.seat.me.0.loads

abbrev pub failures_of : WordSeat → ℕ
failures_of m = m.seat.me.0.failures

-- the word that was noted last, and its lock's number
abbrev pub noted_of : WordSeat → ℕ
noted_of m = m.seat.me.0.knows.noted

abbrev pub noted_lock_of : WordSeat → ℕ
noted_lock_of m = m.seat.me.0.knows.noted_lock

-- only the seat's view and the lane's variables changed, and no load of a lock's word was made
pub record IsPreparing (m m' : WordSeat) : Type 0 where
  pub id : m'.seat.id ≡ m.seat.id
  pub lane : m'.lane ≡ m.lane
  pub events : m'.events.items ≡ m.events.items
  pub stamp : m'.stamp ≡ m.stamp
  pub frame : frame_at m'.state m'.lane ≡ frame_at m.state m.lane
  pub loads : loads_of m' ≡ loads_of m
  pub failures : failures_of m' ≡ failures_of m

-- the word of a lock was noted without an owner, and the lane doesn't hold the lock
pub record IsFetching (r : Assignment) (m : WordSeat) (lock word : ℕ) : Type 0 where
  pub there : lock < locks_in r
  pub lock_is : noted_lock_of m ≡ lock
  pub word_is : noted_of m ≡ word
  pub unowned : owner_in word ≡ 0
  pub low : stamp_in word ≤ length m.events.items + OTHER_EVENTS
  pub free : mode_at m.state m.lane lock ≡ Free

-- of the first n variables each with this guard is marked as loaded
pub record AreLoaded (r : Assignment) (m : WordSeat) (lock n : ℕ) : Type 0 where
  pub each : (x : ℕ) → x < n → guard r x ≡ lock → Has x m.seat.me.0.knows.loaded

-- the lane is to give a lock up, and of the first n variables each with this guard is marked as stored
pub record IsPublishing (r : Assignment) (z : TableId) (m : WordSeat) (lock n : ℕ) : Type 0 where
  pub seat : IsSeatOf r z m
  pub at : StandsAt r m is_release lock
  pub stored : (x : ℕ) → x < n → guard r x ≡ lock → Has x seat.now.stored

-- the seat's view has an event that the seat doesn't keep yet
pub record IsAhead (r : Assignment) (z : TableId) (m : WordSeat) (k : Kind) (stamp : ℕ) : Type 0 where
  pub table : m.seat.table_id ≡ z
  pub key : m.seat.me.0.key ≡ r
  pub role : m.seat.me.0.role ≡ Lane
  pub lane_is : m.seat.me.0.lane ≡ m.lane
  pub empty : m.seat.me.1 ≡ []
  pub lane : IsLaneOf r m
  pub on_lock : is_on_lock k ≡ true
  pub leads : next (service_of r) m.state (event_at m.state m.lane k) ≡ Some m.seat.me.0.knows.own
  pub list : m.seat.me.0.knows.list ≡ m.events.items ++ (record { stamp = stamp; event = event_at m.state m.lane k }) ∷ []
  pub later : m.stamp < stamp
  pub low : stamp ≤ length m.events.items + (OTHER_EVENTS + 1)

-- ---- answers

-- the begin of the lane's next request, where there is one that may begin
abbrev pub open_of : Assignment → WordSeat → Option Kind
open_of r m = begin_next (service_of r) m.lane m.state (slice_get m.requests.items m.begun)

-- the lane is idle, and has no request that may begin
pub record IsIdle (r : Assignment) (m : WordSeat) : Type 0 where
  pub idle : frame_at m.state m.lane ≡ None
  pub none : open_of r m ≡ None

-- the lane is idle and has a request that may begin, but more events than an idle lane may have that begins it
pub record IsFull (r : Assignment) (m : WordSeat) : Type 0 where
  pub idle : frame_at m.state m.lane ≡ None
  pub some : open_of r m ≢ None
  pub many : IDLE_EVENTS < length m.events.items

-- neither is so
pub record GoesOn (r : Assignment) (m : WordSeat) : Type 0 where
  pub not_idle : IsIdle r m → ⊥
  pub not_full : IsFull r m → ⊥

-- a load of this call found this word of the lock: it is noted and counted
pub record HasFound (m m' : WordSeat) (lock word : ℕ) : Type 0 where
  pub counted : loads_of m < loads_of m'
  pub lock_is : noted_lock_of m' ≡ lock
  pub word_is : noted_of m' ≡ word

-- an exchange of a lock's word found another word than it wanted: both are noted and counted, and the seat's lane stays
pub record HasFailed (r : Assignment) (z : TableId) (m m' : WordSeat) (had seen : ℕ) : Type 0 where
  pub settled : IsSettled r z m'
  pub counted : failures_of m < failures_of m'
  pub wanted : m'.seat.me.0.wanted ≡ had
  pub seen_is : m'.seat.me.0.seen ≡ seen

-- the seat is the same, made as many loads, and the noted word of the lock is still this one
pub record IsCounted (m m' : WordSeat) (lock word : ℕ) : Type 0 where
  pub id : m'.seat.id ≡ m.seat.id
  pub loads : loads_of m' ≡ loads_of m
  pub lock_is : noted_lock_of m' ≡ lock
  pub word_is : noted_of m' ≡ word

-- the lane's next event was done, with a stamp above those of its events before; and where a try was busy, a load of this call found an owner of its lock
pub record IsDone (r : Assignment) (m m' : WordSeat) (e : Event) : Type 0 where
  pub goes : GoesOn r m
  pub lane : e.lane ≡ m.lane
  pub index : e.index ≡ length m.events.items
  pub stamp : ℕ
  pub later : m.stamp < stamp
  pub events : m'.events.items ≡ m.events.items ++ (record { stamp = stamp; event = e }) ∷ []
  pub busy : (lock : ℕ) → e.kind ≡ TryBusy lock → (word : ℕ) × HasFound m m' lock word × (owner_in word ≢ 0)

-- the lane stands at an acquire of a lock, in whose word a load of this call found this owner
pub record IsHeld (r : Assignment) (m m' : WordSeat) (by seen : ℕ) : Type 0 where
  pub goes : GoesOn r m
  pub lock : ℕ
  pub at : StandsAt r m is_acquire lock
  pub found : HasFound m m' lock seen
  pub owner : owner_in seen ≡ by
  pub some : by ≢ 0
  pub events : m'.events.items ≡ m.events.items

-- it stands at an acquire or at a try
abbrev pub takes_at : Line → ℕ → Bool
takes_at line lock = is_acquire line lock || is_try line lock

-- the lane stands at a lock, in whose word a load of this call found no owner, and an exchange of this call then another word
pub record IsAgain (r : Assignment) (m m' : WordSeat) (had seen : ℕ) : Type 0 where
  pub goes : GoesOn r m
  pub lock : ℕ
  pub at : StandsAt r m takes_at lock
  pub found : HasFound m m' lock had
  pub unowned : owner_in had ≡ 0
  pub failed : failures_of m < failures_of m'
  pub wanted : m'.seat.me.0.wanted ≡ had
  pub seen_is : m'.seat.me.0.seen ≡ seen
  pub other : seen ≢ had
  pub events : m'.events.items ≡ m.events.items

abbrev pub Turned : Assignment → WordSeat → WordSeat → WordTurn → Type 0
Turned r m m' (Done e) = IsDone r m m' e
Turned r m m' (Held by seen) = IsHeld r m m' by seen
Turned r m m' (Again had seen) = IsAgain r m m' had seen
Turned r m m' Idle = IsIdle r m × (m' ≡ m)
Turned r m m' Full = IsFull r m × (m' ≡ m)
