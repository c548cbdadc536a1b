-- Which two events of a trace conflict: one of them has to come first.
use Rattle.std.specs.Prelude.{ℕ, ◌&&◌, ◌||◌, Bool, true, false, not, Option, Some, None, nat_eq}
use Rattle.std.specs.Int.{bit_at}
use Rattle.rex_event.specs.declared.event.Kind.{Kind}
use Rattle.rex_event.specs.declared.event.Event.{Event}
use Rattle.rex_event.specs.declared.event.Kind.TheVariants.{Begin, AcqEx, AcqSh, RelEx, RelSh, TryOk, Wait, Wake, Signal, Broadcast, Reply, Down, Up}

-- the lock that an event names
abbrev pub named_lock : Kind → Option ℕ
named_lock (AcqEx lock) = Some lock
named_lock (AcqSh lock) = Some lock
named_lock (RelEx lock) = Some lock
named_lock (RelSh lock) = Some lock
named_lock (TryOk lock) = Some lock
named_lock (Wait condition lock) = Some lock
named_lock (Wake condition lock) = Some lock
named_lock _ = None

-- it takes or gives up a shared hold
abbrev pub is_sharing : Kind → Bool
is_sharing (AcqSh lock) = true
is_sharing (RelSh lock) = true
is_sharing _ = false

-- the condition whose queue it reads or changes
abbrev pub named_condition : Kind → Option ℕ
named_condition (Wait condition lock) = Some condition
named_condition (Wake condition lock) = Some condition
named_condition (Signal condition woken) = Some condition
named_condition (Broadcast condition woken) = Some condition
named_condition _ = None

-- the client whose entry it changes
abbrev pub named_client : Kind → Option ℕ
named_client (Begin client sequence handler arguments) = Some client
named_client (Reply client value) = Some client
named_client _ = None

-- the semaphore whose value it changes
abbrev pub named_semaphore : Kind → Option ℕ
named_semaphore (Down semaphore) = Some semaphore
named_semaphore (Up semaphore) = Some semaphore
named_semaphore _ = None

-- both name the same
abbrev pub same_name : Option ℕ → Option ℕ → Bool
same_name (Some a) (Some b) = nat_eq a b
same_name (Some a) None = false
same_name None other = false

-- it names this
abbrev pub is_that : Option ℕ → ℕ → Bool
is_that (Some a) b = nat_eq a b
is_that None b = false

-- a signal or broadcast
abbrev pub is_waker : Kind → Bool
is_waker (Signal condition woken) = true
is_waker (Broadcast condition woken) = true
is_waker _ = false

-- the event woke this lane
abbrev pub woke : Kind → ℕ → Bool
woke (Signal condition woken) lane = is_that woken lane
woke (Broadcast condition woken) lane = nat_eq (bit_at woken lane) 1
woke _ lane = false

-- a wake on this condition
abbrev pub is_wake_on : Kind → Option ℕ → Bool
is_wake_on (Wake condition lock) other = is_that other condition
is_wake_on _ other = false

-- the first woke the second's lane, and the second is the wake
abbrev pub wakes : Event → Event → Bool
wakes e y = woke e.kind y.lane && is_wake_on y.kind (named_condition e.kind)

-- the same lane; the same lock, unless both share it; the same client; the same semaphore; or one woke the other
abbrev pub conflict : Event → Event → Bool
conflict e y =
    nat_eq e.lane y.lane
    || ((same_name (named_lock e.kind) (named_lock y.kind) && not (is_sharing e.kind && is_sharing y.kind))
    || (same_name (named_client e.kind) (named_client y.kind)
    || (same_name (named_semaphore e.kind) (named_semaphore y.kind)
    || (wakes e y || wakes y e))))
