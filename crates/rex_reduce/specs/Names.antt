-- What events name, as places in tables. Two events conflict where they are of one lane, or name one place in a way that
-- excludes each other.
use Rattle.std.specs.Prelude.{ℕ, zero, suc, ◌+◌, ◌*◌, Bool, false, ◌||◌, Option, Some, None, if◌then◌else◌}
use Rattle.rex_event.specs.declared.event.Event.{Event}
use Rattle.rex_event.specs.declared.event.Kind.{Kind}
use Rattle.rex_event.specs.declared.event.Kind.TheVariants.{Wake}
use Rattle.rex_event.specs.declared.event.TheConstants.{LANES}
use Rattle.rex_event.specs.Conflict.{named_lock, is_sharing, named_condition, same_name, woke}

-- the lock that an event names, where it doesn't share it
abbrev pub exclusive_lock : Kind → Option ℕ
exclusive_lock kind = if is_sharing kind then None else named_lock kind

-- the lock that it shares
abbrev pub shared_lock : Kind → Option ℕ
shared_lock kind = if is_sharing kind then named_lock kind else None

-- the condition of a wake
abbrev pub waking : Kind → Option ℕ
waking (Wake condition lock) = Some condition
waking _ = None

-- a condition's place for a lane
abbrev pub slot : ℕ → ℕ → ℕ
slot condition lane = condition * LANES + lane

abbrev pub slot_of : Option ℕ → ℕ → Option ℕ
slot_of None lane = None
slot_of (Some condition) lane = Some (slot condition lane)

-- the place of a wake: its condition's for its lane
abbrev pub wake_slot : Event → Option ℕ
wake_slot e = slot_of (waking e.kind) e.lane

-- the place of a signal or broadcast for a lane that it woke
abbrev pub waker_slot : Kind → ℕ → Option ℕ
waker_slot kind lane = if woke kind lane then slot_of (named_condition kind) lane else None

-- a place is one of a signal or broadcast, for one of the first so many lanes
abbrev pub is_waker_at : Kind → Option ℕ → ℕ → Bool
is_waker_at kind place zero = false
is_waker_at kind place (suc n) = is_waker_at kind place n || same_name (waker_slot kind n) place
