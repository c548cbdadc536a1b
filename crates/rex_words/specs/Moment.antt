-- What is true of the words and of what seats know at each moment between two steps.
use Rattle.std.specs.Prelude.{◌≡◌, ◌≢◌, ℕ, zero, suc, ℤ, ◌+◌, ◌<◌, ◌≤◌, List, [], length, slice_index_or, slice_get, Some}
use Rattle.std.specs.Int.{cast_signed}
use mir.Syntax.{w64}
use mathlib.Core.Option.{some}
use lib.ListN.{get_elem?}
use Rattle.atomic_table.specs.Table.{State}
use Rattle.rex_syntax.specs.declared.locks.Mode.TheVariants.{Free, Exclusive}
use Rattle.rex_syntax.specs.declared.request.Request.{Request}
use Rattle.rex_syntax.specs.declared.service.Lock.{Lock}
use Rattle.rex_syntax.specs.declared.service.LockKind.TheVariants.{Plain}
use Rattle.rex_syntax.specs.Leads.{guard_of}
use Rattle.rex_syntax.specs.Service.{IsService}
use Rattle.rex_syntax.specs.Check.{IsChecked}
use Rattle.rex_event.specs.Order.{Has}
use Rattle.rex_event.specs.declared.event.TheConstants.{CLIENTS}
use Rattle.rex_state.specs.Value.{StateValue}
use Rattle.rex_state.specs.Start.{start_of}
use Rattle.rex_state.specs.Sound.{mode_at}
use Rattle.rex_words.specs.declared.assignment.Assignment.{Assignment}
use Rattle.rex_words.specs.declared.stamped.Stamped.{Stamped}
use Rattle.rex_words.specs.declared.view.Knowledge.{Knowledge}
use Rattle.rex_words.specs.declared.view.Gathered.{Gathered}
use Rattle.rex_words.specs.declared.view.View.{View}
use Rattle.rex_words.specs.declared.view.Role.{Role}
use Rattle.rex_words.specs.declared.view.Role.TheVariants.{Spent, Host, Lane}
use Rattle.rex_words.specs.Words.{owner_in, word_of}
use Rattle.rex_words.specs.Stamps.{greatest_stamp, lane_list, lock_stamp}
use Rattle.rex_words.specs.Recorded.{IsRecorded}
use Rattle.rex_words.specs.Own.{value_at, IsOwn}
use Rattle.rex_words.specs.Alone.{service_of, requests_of}
use Rattle.rex_words.specs.declared.limits.TheConstants.{LANE_EVENTS}

-- ---- what is assigned

-- a checked service of plain locks without conditions and semaphores, and requests of clients that there can be
pub record IsAssignment (r : Assignment) : Type 0 where
  pub good : IsService (service_of r)
  pub checked : IsChecked (service_of r)
  pub plain : (i : ℕ) (lock : Lock) → slice_get (service_of r).locks i ≡ Some lock → lock.kind ≡ Plain
  pub no_conditions : (service_of r).conditions ≡ []
  pub no_semaphores : (service_of r).semaphores ≡ []
  pub clients : (q : Request) → Has q (requests_of r) → (0 < q.client) × (q.client ≤ CLIENTS)

-- ---- words: first those of the locks, then those of the variables; one more is never looked at

abbrev pub locks_in : Assignment → ℕ
locks_in r = length (service_of r).locks

abbrev pub variables_in : Assignment → ℕ
variables_in r = length (service_of r).variables

-- the word of a lock
abbrev pub lock_word : List ℕ → ℕ → ℕ
lock_word words lock = slice_index_or words lock 0

-- the value that a variable has in its word
abbrev pub word_value : Assignment → List ℕ → ℕ → ℤ
word_value r words x = cast_signed w64 (slice_index_or words (locks_in r + x) 0)

-- the lock that guards a variable
abbrev pub guard : Assignment → ℕ → ℕ
guard r x = guard_of (service_of r) x

-- ---- what is known of a lane

-- a loaded variable's lock is the noted one, which was noted without an owner; while the lock's word is the noted one the copy has the variable's value
pub record IsLoaded (r : Assignment) (words : List ℕ) (s : StateValue) (k : Knowledge) (x : ℕ) : Type 0 where
  pub there : k.noted_lock < locks_in r
  pub lock : guard r x ≡ k.noted_lock
  pub unowned : owner_in k.noted ≡ 0
  pub same : lock_word words k.noted_lock ≡ k.noted → value_at k.own x ≡ value_at s x

-- a stored variable's guard is held, and its word has the copy
pub record IsStored (r : Assignment) (words : List ℕ) (lane : ℕ) (k : Knowledge) (x : ℕ) : Type 0 where
  pub held : mode_at k.own lane (guard r x) ≡ Exclusive
  pub same : word_value r words x ≡ value_at k.own x

-- what is known of a lane is so: its events, its own state, that the noted word is at most its lock's, and the marks
pub record IsKnown (r : Assignment) (words : List ℕ) (history : List Stamped) (s : StateValue) (lane : ℕ) (k : Knowledge) : Type 0 where
  pub list : k.list ≡ lane_list history lane
  pub own : IsOwn (service_of r) lane k.own s
  pub noted : k.noted_lock < locks_in r → k.noted ≤ lock_word words k.noted_lock
  pub loaded : (x : ℕ) → Has x k.loaded → IsLoaded r words s k x
  pub stored : (x : ℕ) → Has x k.stored → IsStored r words lane k x

-- what is known of a lane at first
abbrev pub first_known : Assignment → Knowledge
first_known r = record { list = []; own = start_of (service_of r); noted_lock = 0; noted = 0; loaded = []; stored = [] }

-- ---- views

-- the host has the knowledge of a lane whose view it took in
pub record IsGathered (lanes : ℕ) (know : ℕ → Knowledge) (owner : ℕ → ℕ) (seat : ℕ) (g : Gathered) : Type 0 where
  pub lane : g.lane < lanes
  pub mine : owner g.lane ≡ seat
  pub knows : know g.lane ≡ g.knows

-- what the view of a seat says: the host's which lane has a view next and what it took in, a lane's what is known of the lane, which no other seat has
module _ (r : Assignment) (know : ℕ → Knowledge) (owner : ℕ → ℕ) (host dealt seat : ℕ) (v : View) where
  abbrev pub SaysRole : Role → Type 0
  SaysRole Spent = Unit {0}
  SaysRole Host = (v.key ≡ r) × (seat ≡ host) × (v.lane ≡ dealt) × ((i : ℕ) (g : Gathered) → get_elem? v.gathered i ≡ some g → IsGathered (service_of r).lanes know owner seat g)
  SaysRole Lane = (v.key ≡ r) × (v.lane < dealt) × (v.lane < (service_of r).lanes) × (owner v.lane ≡ seat) × (know v.lane ≡ v.knows)

  abbrev pub Says : Type 0
  Says = SaysRole v.role

-- ---- the moment

-- no lane holds the lock
abbrev pub IsOpen : StateValue → ℕ → Type 0
IsOpen s lock = (lane : ℕ) → mode_at s lane lock ≡ Free

-- who holds a lock: the lane that is the owner and 1 less, and no lane where the owner is 0
pub record IsOwner (s : StateValue) (lock owner : ℕ) : Type 0 where
  pub small : owner < 128
  pub held : (lane : ℕ) → mode_at s lane lock ≢ Free → owner ≡ lane + 1
  pub holds : (lane : ℕ) → owner ≡ lane + 1 → mode_at s lane lock ≢ Free

-- the word of a lock has the stamp of the last event on it, and its holder
pub record IsLockWord (history : List Stamped) (s : StateValue) (lock word : ℕ) : Type 0 where
  pub owner : ℕ
  pub is : word ≡ word_of (lock_stamp history lock) owner
  pub holder : IsOwner s lock owner

-- the events of all lanes, in order of stamp and then of lane, run to a state; a lock's word has the stamp of the last event on it, and the lane that holds it in that state; a variable whose guard no lane holds has the state's value in its word; and what is known of each lane is so
pub record IsCommon (r : Assignment) (words : List ℕ) (know : ℕ → Knowledge) : Type 0 where
  pub history : List Stamped
  pub state : StateValue
  pub recorded : IsRecorded (service_of r) history state
  pub locks : (lock : ℕ) → lock < locks_in r → IsLockWord history state lock (lock_word words lock)
  pub shared : (x : ℕ) → x < variables_in r → IsOpen state (guard r x) → word_value r words x ≡ value_at state x
  pub lanes : (lane : ℕ) → lane < (service_of r).lanes → IsKnown r words history state lane (know lane)

-- how many events are known of the first n lanes
abbrev pub events_known : (ℕ → Knowledge) → ℕ → ℕ
events_known know zero = 0
events_known know (suc n) = events_known know n + length (know n).list

-- a lane has no more events than there is room for, and no stamp is above the number of all events, so that words have room for stamps
pub record IsBounded (r : Assignment) (know : ℕ → Knowledge) : Type 0 where
  pub few : (lane : ℕ) → lane < (service_of r).lanes → length (know lane).list ≤ LANE_EVENTS
  pub stamps : (lane : ℕ) → lane < (service_of r).lanes → greatest_stamp (know lane).list ≤ events_known know (service_of r).lanes

-- what is known of the lanes is so at the words; each view says what is known; and a lane that had no view yet did nothing
pub record IsMoment (r : Assignment) (t : State (Unit {0}) View) : Type 0 where
  pub right : IsAssignment r
  pub wide : locks_in r + variables_in r ≤ length t.words
  pub know : ℕ → Knowledge
  pub common : IsCommon r t.words know
  pub bounded : IsBounded r know
  pub owner : ℕ → ℕ
  pub host : ℕ
  pub dealt : ℕ
  pub views : (seat : ℕ) (v : View) → get_elem? t.views seat ≡ some v → Says r know owner host dealt seat v
  pub untouched : (lane : ℕ) → dealt ≤ lane → lane < (service_of r).lanes → know lane ≡ first_known r
