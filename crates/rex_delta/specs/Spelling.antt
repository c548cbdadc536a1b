-- Which deltas have a spelling, and what it is.
use Rattle.std.specs.Prelude.{◌≡◌, ℕ, ◌+◌, ◌<◌, ◌≤◌, ◌^◌, Bool, List, [], ◌∷◌, ◌++◌, length, Option, Some, None, IfSome, is_some, FitsSigned, if◌then◌else◌}
use Rattle.std.specs.List.{All, flat_map, list_any}
use Rattle.std.specs.Int.{w16, w32, w64, to_be_bytes}
use Rattle.rex_event.specs.declared.event.Kind.{Kind}
use Rattle.rex_event.specs.declared.event.Kind.TheVariants.{Begin, AcqEx, AcqSh, RelEx, RelSh, TryOk, TryBusy, Wait, Wake, Signal, Broadcast, Clock, Random, Reply, Down, Up}
use Rattle.rex_event.specs.declared.event.Event.{Event}
use Rattle.rex_event.specs.declared.delta.Cause.{Cause}
use Rattle.rex_event.specs.declared.delta.Delta.{Delta}
use Rattle.rex_event.specs.Limits.{most_lanes}
use Rattle.rex_event.specs.Conflict.{named_semaphore}
use Rattle.rex_event.specs.Cuts.{count_at, counted}
use Rattle.rex_event.specs.declared.event.TheConstants.{CLIENTS, SEQUENCES}
use Rattle.rex_event.specs.declared.delta.TheConstants.{DELTA_EVENTS}
pub use Rattle.rex_event.specs.Pieces.{has_event, others_below, CauseFits, AreRising}
pub use Rattle.rex_wire.specs.Ranges.{is_byte, is_between, IsBetween}
use Rattle.rex_wire.specs.Spelling.{byte, signed}
use Rattle.rex_delta.specs.declared.limits.TheConstants.{GREATEST_BASE, PLACES}
use Rattle.rex_list.specs.declared.arguments.TheConstants.{ARGUMENTS}

-- ---- spelling; lanes, handlers, locks, semaphores and conditions are spelled with numbers from 1

-- the number of a kind
abbrev pub code_of : Kind → ℕ
code_of (Begin client sequence handler arguments) = 1
code_of (AcqEx lock) = 2
code_of (AcqSh lock) = 3
code_of (RelEx lock) = 4
code_of (RelSh lock) = 5
code_of (TryOk lock) = 6
code_of (TryBusy lock) = 7
code_of (Wait condition lock) = 8
code_of (Wake condition lock) = 9
code_of (Signal condition woken) = 10
code_of (Broadcast condition woken) = 11
code_of (Clock value) = 12
code_of (Random value) = 13
code_of (Reply client value) = 14
code_of (Down semaphore) = 15
code_of (Up semaphore) = 16

-- the lane that a signal woke, 0 for none
abbrev pub woken_number : Option ℕ → ℕ
woken_number None = 0
woken_number (Some lane) = lane + 1

-- what follows a kind's number
abbrev pub content : Kind → List ℕ
content (Begin client sequence handler arguments) = to_be_bytes w16 client ++ to_be_bytes w32 sequence ++ byte (handler + 1) ++ byte (length arguments) ++ flat_map signed arguments
content (AcqEx lock) = byte (lock + 1)
content (AcqSh lock) = byte (lock + 1)
content (RelEx lock) = byte (lock + 1)
content (RelSh lock) = byte (lock + 1)
content (TryOk lock) = byte (lock + 1)
content (TryBusy lock) = byte (lock + 1)
content (Wait condition lock) = byte (condition + 1) ++ byte (lock + 1)
content (Wake condition lock) = byte (condition + 1) ++ byte (lock + 1)
content (Signal condition woken) = byte (condition + 1) ++ byte (woken_number woken)
content (Broadcast condition woken) = byte (condition + 1) ++ to_be_bytes w64 woken
content (Clock value) = signed value
content (Random value) = to_be_bytes w32 value
content (Reply client value) = to_be_bytes w16 client ++ signed value
content (Down semaphore) = byte (semaphore + 1)
content (Up semaphore) = byte (semaphore + 1)

abbrev pub cause_bytes : Cause → List ℕ
cause_bytes c = byte (c.lane + 1) ++ to_be_bytes w32 c.index

-- an event doesn't spell its index, which is how many events its lane did before
abbrev pub event_bytes : Event → List Cause → List ℕ
event_bytes e causes = byte (e.lane + 1) ++ byte (code_of e.kind) ++ content e.kind ++ byte (length causes) ++ flat_map cause_bytes causes

-- events, each with its causes
abbrev pub events_bytes : List Event → List (List Cause) → List ℕ
events_bytes [] lists = []
events_bytes (e ∷ es) [] = []
events_bytes (e ∷ es) (causes ∷ lists) = event_bytes e causes ++ events_bytes es lists

-- some event is on a semaphore
abbrev pub has_counting : List Event → Bool
has_counting es = list_any (λ e. is_some (named_semaphore e.kind)) es

-- the version in which events are spelled: 2 where some event is on a semaphore
abbrev pub version_of : List Event → ℕ
version_of es = if has_counting es then 2 else 1

-- the version, the lanes with how many events each did before, and the events
abbrev pub delta_bytes : Delta → List ℕ
delta_bytes d = byte (version_of d.events) ++ byte (length d.bases) ++ flat_map (to_be_bytes w32) d.bases ++ to_be_bytes w16 (length d.events) ++ events_bytes d.events d.causes

-- ---- ranges

-- the greatest base: a lane's count stays below 2^32 - 1 with the most events more
abbrev pub greatest_base : ℕ
greatest_base = GREATEST_BASE

-- what a kind names is in its range, where there are so many lanes
abbrev pub KindFits : ℕ → Kind → Type 0
KindFits lanes (Begin client sequence handler arguments) = IsBetween 1 CLIENTS client × IsBetween 1 SEQUENCES sequence × (handler < PLACES) × (length arguments ≤ ARGUMENTS)
KindFits lanes (AcqEx lock) = lock < PLACES
KindFits lanes (AcqSh lock) = lock < PLACES
KindFits lanes (RelEx lock) = lock < PLACES
KindFits lanes (RelSh lock) = lock < PLACES
KindFits lanes (TryOk lock) = lock < PLACES
KindFits lanes (TryBusy lock) = lock < PLACES
KindFits lanes (Wait condition lock) = (condition < PLACES) × (lock < PLACES)
KindFits lanes (Wake condition lock) = (condition < PLACES) × (lock < PLACES)
KindFits lanes (Signal condition woken) = (condition < PLACES) × IfSome woken (λ lane. lane < lanes)
KindFits lanes (Broadcast condition woken) = (condition < PLACES) × (woken < 2 ^ lanes)
KindFits lanes (Clock value) = Unit {0}
KindFits lanes (Random value) = Unit {0}
KindFits lanes (Reply client value) = IsBetween 1 CLIENTS client
KindFits lanes (Down semaphore) = semaphore < PLACES
KindFits lanes (Up semaphore) = semaphore < PLACES

-- where lanes did so many events before the delta, and so many before this event
pub record EventFits (bases counts : List ℕ) (e : Event) (causes : List Cause) : Type 0 where
  pub lane : e.lane < length counts
  pub index : e.index ≡ count_at counts e.lane
  pub kind : KindFits (length counts) e.kind
  pub few : length causes ≤ others_below bases counts e.lane (length counts)
  pub each : All (CauseFits bases counts e.lane) causes
  pub rising : AreRising 0 causes

-- each event fits after those before it
abbrev pub EventsFit : List ℕ → List ℕ → List Event → List (List Cause) → Type 0
EventsFit bases counts [] [] = Unit {0}
EventsFit bases counts [] (causes ∷ lists) = ⊥
EventsFit bases counts (e ∷ es) [] = ⊥
EventsFit bases counts (e ∷ es) (causes ∷ lists) = EventFits bases counts e causes × EventsFit bases (counted counts e) es lists

-- a delta whose numbers are in their ranges
pub record IsDelta (d : Delta) : Type 0 where
  pub lanes : IsBetween 1 most_lanes (length d.bases)
  pub bases : All (λ base. base ≤ greatest_base) d.bases
  pub some : IsBetween 1 DELTA_EVENTS (length d.events)
  pub events : EventsFit d.bases d.bases d.events d.causes

-- ---- numbers that their types keep

-- what an event reads or hands on is a number of its type
abbrev pub IsTyped : Kind → Type 0
IsTyped (Begin client sequence handler arguments) = All (FitsSigned w64) arguments
IsTyped (Clock value) = FitsSigned w64 value
IsTyped (Random value) = value < 2 ^ 32
IsTyped (Reply client value) = FitsSigned w64 value
IsTyped _ = Unit {0}

pub record HasTypedKind (e : Event) : Type 0 where
  pub kind : IsTyped e.kind

-- a delta that has a spelling
pub record HasSpelling (d : Delta) : Type 0 where
  pub delta : IsDelta d
  pub typed : All HasTypedKind d.events
