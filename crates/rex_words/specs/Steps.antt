-- What each kind of step does to the view of its seat.
use Rattle.std.specs.Prelude.{◌≡◌, ◌≢◌, ℕ, ℤ, ◌+◌, ◌-◌, ◌<◌, ◌≤◌, length, max, [], ◌∷◌, ◌++◌, slice_set, Some}
use Rattle.std.specs.Int.{cast_signed}
use mir.Syntax.{w64}
use Rattle.atomic_table.specs.Table.{Me, Step}
use Rattle.rex_syntax.specs.declared.locks.Mode.TheVariants.{Free, Exclusive}
use Rattle.rex_event.specs.declared.event.Kind.{Kind}
use Rattle.rex_event.specs.declared.event.Kind.TheVariants.{AcqEx, RelEx, TryOk, TryBusy}
use Rattle.rex_event.specs.Order.{Has}
use Rattle.rex_state.specs.Value.{StateValue}
use Rattle.rex_state.specs.Machine.{next}
use Rattle.rex_state.specs.Sound.{mode_at}
use Rattle.rex_words.specs.declared.assignment.Assignment.{Assignment}
use Rattle.rex_words.specs.declared.view.Knowledge.{Knowledge}
use Rattle.rex_words.specs.declared.view.View.{View}
use Rattle.rex_words.specs.declared.view.Role.TheVariants.{Spent, Host, Lane}
use Rattle.rex_words.specs.Words.{stamp_in, owner_in, word_of}
use Rattle.rex_words.specs.Stamps.{greatest_stamp}
use Rattle.rex_words.specs.Alone.{service_of, own_event, with_event, HasEntered}
use Rattle.rex_words.specs.Moment.{locks_in, variables_in, guard, first_known}
use Rattle.rex_words.specs.declared.limits.TheConstants.{OTHER_EVENTS}

-- a seat's view, and the slots that it holds, of which words have none
abbrev pub ViewAndSlots : Type 0
ViewAndSlots = Me (Unit {0}) View

-- ---- what enters a view first

-- what the lane did by itself enters its view
pub record Enters (v : View) (k : Knowledge) : Type 0 where
  pub lane : v.role ≡ Lane
  pub known : HasEntered v.key v.lane v.knows k

-- ---- an event of a lane

-- the lane does this in its own state, and gets the stamp
pub record Does (v : View) (k : Knowledge) (kind : Kind) (stamp : ℕ) (k' : Knowledge) : Type 0 where
  pub own : StateValue
  pub leads : next (service_of v.key) k.own (own_event v.lane k kind) ≡ Some own
  pub known : k' ≡ with_event k stamp (own_event v.lane k kind) own

-- ---- the load of a lock's word: it is noted and counted, and marks go

abbrev pub looking : Knowledge → ℕ → ℕ → Knowledge
looking k lock found = record k { noted_lock = lock; noted = found; loaded = []; stored = [] }

-- the view after a load, and what is known then
abbrev pub looked_view : View → Knowledge → View
looked_view v k = record v { knows = k; loads = v.loads + 1 }

-- the other lanes have no more events than they may, so that the stamp that was found is no greater than this and the number of the lane's own
abbrev pub HasLowStamp : Knowledge → ℕ → Type 0
HasLowStamp k found = stamp_in found ≤ length k.list + OTHER_EVENTS

pub record HasLooked (v : View) (lock found : ℕ) (v' : View) : Type 0 where
  pub first : Knowledge
  pub enters : Enters v first
  pub low : HasLowStamp first found
  pub view : v' ≡ looked_view v (looking first lock found)

abbrev pub looked : Step (Unit {0}) → ViewAndSlots → ℕ → ViewAndSlots → Type 0
looked st m found m' = HasLooked m.0 st.word found m'.0 × (m'.1 ≡ m.1)

-- ---- the same load where the lane tries the lock: a word that shows an owner makes the busy try an event

pub record Finds (v : View) (k : Knowledge) (lock : ℕ) (v' : View) : Type 0 where
  pub known : Knowledge
  pub does : Does v k (TryBusy lock) (greatest_stamp k.list + 1) known
  pub view : v' ≡ looked_view v known

pub record HasTried (v : View) (lock found : ℕ) (v' : View) : Type 0 where
  pub first : Knowledge
  pub enters : Enters v first
  pub low : HasLowStamp first found
  pub free : owner_in found ≡ 0 → v' ≡ looked_view v (looking first lock found)
  pub busy : owner_in found ≢ 0 → Finds v (looking first lock found) lock v'

abbrev pub tried : Step (Unit {0}) → ViewAndSlots → ℕ → ViewAndSlots → Type 0
tried st m found m' = HasTried m.0 st.word found m'.0 × (m'.1 ≡ m.1)

-- ---- the load of a variable, whose lock was noted without an owner and is not the lane's: a copy, and a mark

abbrev pub with_value : StateValue → ℕ → ℤ → StateValue
with_value s x value = record s { variables = slice_set s.variables x value }

abbrev pub with_load : Knowledge → ℕ → ℤ → Knowledge
with_load k x value = record k { own = with_value k.own x value; loaded = x ∷ k.loaded }

pub record HasFetched (v : View) (x found : ℕ) (v' : View) : Type 0 where
  pub there : v.knows.noted_lock < locks_in v.key
  pub lock : guard v.key x ≡ v.knows.noted_lock
  pub unowned : owner_in v.knows.noted ≡ 0
  pub not_held : mode_at v.knows.own v.lane v.knows.noted_lock ≡ Free
  pub view : v' ≡ record v { knows = with_load v.knows x (cast_signed w64 found) }

abbrev pub fetched : Step (Unit {0}) → ViewAndSlots → ℕ → ViewAndSlots → Type 0
fetched st m found m' = HasFetched m.0 (st.word - locks_in m.0.key) found m'.0 × (m'.1 ≡ m.1)

-- ---- the exchange of a lock's noted word for a greater stamp and the lane: where the word was the noted one the lane takes its lock, with all its variables loaded; else both are noted, and marks go

-- the stamp of an event that takes the lock whose word was noted
abbrev pub taking_stamp : Knowledge → ℕ
taking_stamp k = max (greatest_stamp k.list) (stamp_in k.noted) + 1

-- the lane takes the noted lock, by an event of this kind
pub record Takes (acquires : ℕ → Kind) (v v' : View) : Type 0 where
  pub unowned : owner_in v.knows.noted ≡ 0
  pub loaded : (x : ℕ) → x < variables_in v.key → guard v.key x ≡ v.knows.noted_lock → Has x v.knows.loaded
  pub known : Knowledge
  pub does : Does v v.knows (acquires v.knows.noted_lock) (taking_stamp v.knows) known
  pub view : v' ≡ record v { knows = known }

-- what is known without marks
abbrev pub unmarked : Knowledge → Knowledge
unmarked k = record k { loaded = []; stored = [] }

abbrev pub failed_view : View → ℕ → ℕ → View
failed_view v had seen = record v { knows = unmarked v.knows; failures = v.failures + 1; wanted = had; seen = seen }

-- the exchange of the noted word
pub record HasTaken (acquires : ℕ → Kind) (v : View) (lock had new found : ℕ) (v' : View) : Type 0 where
  pub lock_is : lock ≡ v.knows.noted_lock
  pub noted_is : had ≡ v.knows.noted
  pub new_is : new ≡ word_of (taking_stamp v.knows) (v.lane + 1)
  pub won : found ≡ had → Takes acquires v v'
  pub lost : found ≢ had → v' ≡ failed_view v had found

abbrev pub taken : (ℕ → Kind) → Step (Unit {0}) → ViewAndSlots → ℕ → ViewAndSlots → Type 0
taken acquires st m found m' = HasTaken acquires m.0 st.word st.first st.second found m'.0 × (m'.1 ≡ m.1)

-- by an acquire, and by a try
abbrev pub acquired : Step (Unit {0}) → ViewAndSlots → ℕ → ViewAndSlots → Type 0
acquired = taken (λ lock. AcqEx lock)

abbrev pub taken_by_try : Step (Unit {0}) → ViewAndSlots → ℕ → ViewAndSlots → Type 0
taken_by_try = taken (λ lock. TryOk lock)

-- ---- the store of a variable, whose guard is held: a mark, after what the lane did by itself

abbrev pub with_store : Knowledge → ℕ → Knowledge
with_store k x = record k { stored = x ∷ k.stored }

pub record HasPublished (v : View) (x : ℕ) (v' : View) : Type 0 where
  pub first : Knowledge
  pub enters : Enters v first
  pub held : mode_at first.own v.lane (guard v.key x) ≡ Exclusive
  pub view : v' ≡ record v { knows = with_store first x }

abbrev pub published : Step (Unit {0}) → ViewAndSlots → ℕ → ViewAndSlots → Type 0
published st m value m' = HasPublished m.0 (st.word - locks_in m.0.key) m'.0 × (m'.1 ≡ m.1)

-- ---- the store of a lock's word without an owner: the lane gives the lock up, with all its variables stored

pub record HasReleased (v : View) (lock value : ℕ) (v' : View) : Type 0 where
  pub first : Knowledge
  pub enters : Enters v first
  pub stored : (x : ℕ) → x < variables_in v.key → guard v.key x ≡ lock → Has x first.stored
  pub value_is : value ≡ word_of (greatest_stamp first.list + 1) 0
  pub known : Knowledge
  pub does : Does v first (RelEx lock) (greatest_stamp first.list + 1) known
  pub view : v' ≡ record v { knows = known }

abbrev pub released : Step (Unit {0}) → ViewAndSlots → ℕ → ViewAndSlots → Type 0
released st m value m' = HasReleased m.0 st.word value m'.0 × (m'.1 ≡ m.1)

-- ---- a lane gets a view

-- the view of the first seat, which gives each lane its view
abbrev pub first_view : Assignment → View
first_view r = record { role = Host; key = r; lane = 0; knows = first_known r; loads = 0; failures = 0; wanted = 0; seen = 0; gathered = [] }

abbrev pub dealt_left : View → View
dealt_left v = record v { lane = v.lane + 1 }

abbrev pub dealt_right : View → View
dealt_right v = record { role = Lane; key = v.key; lane = v.lane; knows = first_known v.key; loads = 0; failures = 0; wanted = 0; seen = 0; gathered = [] }

-- ---- a lane's view is taken in

abbrev pub gathered : View → View → View
gathered v w = record v { gathered = v.gathered ++ (record { lane = w.lane; knows = w.knows }) ∷ [] }

-- nothing is assigned
abbrev pub no_assignment : Assignment
no_assignment = record {
  service = record { marker = record {}; value = record { lanes = 0; locks = []; semaphores = []; conditions = []; variables = []; handlers = [] } };
  requests = record { marker = record {}; value = [] };
  seed = record { marker = record {}; value = 0 };
}

-- the view of a seat that was taken in
abbrev pub spent : View
spent = record { role = Spent; key = no_assignment; lane = 0; knows = first_known no_assignment; loads = 0; failures = 0; wanted = 0; seen = 0; gathered = [] }
