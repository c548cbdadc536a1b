-- What a lane does by itself, without a lock: it begins its requests, reads the clock and random numbers, and replies.
use Rattle.std.specs.Prelude.{◌≡◌, ℕ, pos, zero, suc, ◌+◌, Bool, true, false, List, [], ◌∷◌, ◌++◌, length, nat_eq, nat_lt, slice_get, Option, Some, None, if◌then◌else◌}
use Rattle.std.specs.List.{filter}
use Rattle.rand_pcg.specs.Lcg.{Lcg, started, increment_of}
use Rattle.rand_pcg.specs.Pcg.{pcg32, multiplier_64}
use Rattle.rex_syntax.specs.declared.service.Declarations.{Declarations}
use Rattle.rex_syntax.specs.declared.request.Request.{Request}
use Rattle.rex_syntax.specs.declared.line.Line.{Line}
use Rattle.rex_syntax.specs.declared.line.Line.TheVariants as line
use Rattle.rex_frame.specs.declared.frame.Frame.{Frame}
use Rattle.rex_frame.specs.Step.{value_in}
use Rattle.rex_event.specs.declared.event.Kind.{Kind}
use Rattle.rex_event.specs.declared.event.Kind.TheVariants as kind
use Rattle.rex_event.specs.declared.event.Event.{Event}
use Rattle.rex_event.specs.Conflict.{named_lock}
use Rattle.rex_state.specs.Value.{StateValue}
use Rattle.rex_state.specs.Lines.{line_of}
use Rattle.rex_state.specs.Machine.{lane_of, frame_at, enabled, next}
use Rattle.rex_record.specs.Turn.{begin_of}
use Rattle.rex_record.specs.Value.{is_begin}
use Rattle.rex_words.specs.declared.assignment.Assignment.{Assignment}
use Rattle.rex_words.specs.declared.stamped.Stamped.{Stamped}
use Rattle.rex_words.specs.declared.view.Knowledge.{Knowledge}
use Rattle.rex_words.specs.Stamps.{greatest_stamp}
use Rattle.rex_words.specs.Recorded.{lane_for, IsDealt}
use Rattle.rex_words.specs.declared.limits.TheConstants.{IDLE_EVENTS}

-- ---- the parts of an assignment

abbrev pub service_of : Assignment → Declarations
service_of r = r.service.value

abbrev pub requests_of : Assignment → List Request
requests_of r = r.requests.value

abbrev pub seed_of : Assignment → ℕ
seed_of r = r.seed.value

-- the requests that a lane serves, in their order
abbrev pub lane_requests : Assignment → ℕ → List Request
lane_requests r lane = filter (λ (q : Request). nat_eq (lane_for (service_of r).lanes q.client) lane) (requests_of r)

-- ---- random numbers

-- a lane's random generator: its stream is the lane's number, from 1
abbrev pub dice_of : Assignment → ℕ → Lcg
dice_of r lane = started 64 multiplier_64 (seed_of r) (increment_of 64 (lane + 1))

-- a generator after so many draws
abbrev pub rolled : Lcg → ℕ → Lcg
rolled dice zero = dice
rolled dice (suc n) = (pcg32 (rolled dice n)).1

-- the number that it draws then
abbrev pub drawn : Lcg → ℕ → ℕ
drawn dice n = (pcg32 (rolled dice n)).0

-- ---- the next event

abbrev pub is_draw : Kind → Bool
is_draw (kind.Random value) = true
is_draw _ = false

-- how many requests are begun by these events
abbrev pub begun_in : List Stamped → ℕ
begun_in list = length (filter (λ (x : Stamped). is_begin x.event.kind) list)

-- how many random numbers they draw
abbrev pub draws_in : List Stamped → ℕ
draws_in list = length (filter (λ (x : Stamped). is_draw x.event.kind) list)

-- the begin of a request, where the lane's own state allows it
abbrev pub begin_if : Declarations → ℕ → StateValue → Request → Option Kind
begin_if service lane s q = if enabled service lane (begin_of q) s then Some (begin_of q) else None

-- the begin of the lane's next request, where there is one
abbrev pub begin_next : Declarations → ℕ → StateValue → Option Request → Option Kind
begin_next service lane s None = None
begin_next service lane s (Some q) = begin_if service lane s q

-- what an idle lane begins; nothing, where it has more events than an idle lane may have that begins
abbrev pub begins_at : Assignment → ℕ → Knowledge → Option Kind
begins_at r lane k = if nat_lt IDLE_EVENTS (length k.list) then None else begin_next (service_of r) lane k.own (slice_get (lane_requests r lane) (begun_in k.list))

-- what a busy lane does by itself at a line: the clock gives the lane's own events so far
abbrev pub does_at : Assignment → ℕ → Knowledge → Frame → Line → Option Kind
does_at r lane k f (line.Clock local) = Some (kind.Clock (pos (lane_of k.own lane).done))
does_at r lane k f (line.Random local) = Some (kind.Random (drawn (dice_of r lane) (draws_in k.list)))
does_at r lane k f (line.Reply value) = Some (kind.Reply f.client (value_in value f k.own.variables))
does_at r lane k f _ = None

-- the same for a lane, which may be idle
abbrev pub alone_in : Assignment → ℕ → Knowledge → Option Frame → Option Kind
alone_in r lane k None = begins_at r lane k
alone_in r lane k (Some f) = does_at r lane k f (line_of (service_of r) f)

-- what the lane does next by itself, if anything
abbrev pub alone : Assignment → ℕ → Knowledge → Option Kind
alone r lane k = alone_in r lane k (frame_at k.own lane)

-- ---- what events of a lane say

-- after these events of a lane: what is begun is the lane's next request, a read of the clock gives the number of these events, and a random number is the lane's next one
abbrev pub IsTold : Assignment → ℕ → List Stamped → Kind → Type 0
IsTold r lane before (kind.Begin client sequence handler arguments) = slice_get (lane_requests r lane) (begun_in before) ≡ Some (record { client = client; sequence = sequence; handler = handler; arguments = arguments })
IsTold r lane before (kind.Clock value) = value ≡ pos (length before)
IsTold r lane before (kind.Random value) = value ≡ drawn (dice_of r lane) (draws_in before)
IsTold r lane before _ = Unit {0}

-- so does each event of a lane after those before it
pub record AreTold (r : Assignment) (lane : ℕ) (list : List Stamped) : Type 0 where
  pub each : (before rest : List Stamped) (x : Stamped) → list ≡ before ++ x ∷ rest → IsTold r lane before x.event.kind

-- ---- events by itself

-- the lane's event of this kind
abbrev pub own_event : ℕ → Knowledge → Kind → Event
own_event lane k kind = record { lane = lane; index = (lane_of k.own lane).done; kind = kind }

-- what is known after an event with its stamp, which leads to this own state: no marks
abbrev pub with_event : Knowledge → ℕ → Event → StateValue → Knowledge
with_event k stamp e own = record k { list = k.list ++ (record { stamp = stamp; event = e }) ∷ []; own = own; loaded = []; stored = [] }

-- the lane does its next event by itself, with a stamp one more than its last
pub record DoesAlone (r : Assignment) (lane : ℕ) (k : Knowledge) (e : Event) (k' : Knowledge) : Type 0 where
  pub kind : Kind
  pub alone_is : alone r lane k ≡ Some kind
  pub event : e ≡ own_event lane k kind
  pub own : StateValue
  pub leads : next (service_of r) k.own e ≡ Some own
  pub known : k' ≡ with_event k (greatest_stamp k.list + 1) e own

-- the lane does these events by itself, one after another
abbrev pub DoAlone : Assignment → ℕ → Knowledge → List Event → Knowledge → Type 0
DoAlone r lane k [] k' = k' ≡ k
DoAlone r lane k (e ∷ es) k' = (m : Knowledge) × DoesAlone r lane k e m × DoAlone r lane m es k'

-- an event of a lane's own that names no lock
pub record IsQuiet (service : Declarations) (e : Event) : Type 0 where
  pub dealt : IsDealt service e
  pub unlocked : named_lock e.kind ≡ None

-- the lane does all that it can by itself
pub record HasEntered (r : Assignment) (lane : ℕ) (k k' : Knowledge) : Type 0 where
  pub events : List Event
  pub done : DoAlone r lane k events k'
  pub all : alone r lane k' ≡ None
