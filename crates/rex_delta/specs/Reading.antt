-- Reading a delta from left to right, a field a line, with the first field that is absent, cut short or not allowed.
use Rattle.std.specs.Prelude.{◌==◌, ℕ, zero, suc, ◌+◌, ◌-◌, ◌^◌, ◌&&◌, ℤ, Bool, not, nat_lt, nat_le, is_some, List, [], ◌∷◌, length, Option, Some, None, Result, Ok, if◌then◌else◌}
use Rattle.std.specs.Int.{w8, w16, w32, w64}
use Rattle.rex_event.specs.declared.event.Kind.{Kind}
use Rattle.rex_event.specs.declared.event.Kind.TheVariants.{Begin, AcqEx, AcqSh, RelEx, RelSh, TryOk, TryBusy, Wait, Wake, Signal, Broadcast, Clock, Random, Reply, Down, Up}
use Rattle.rex_event.specs.declared.event.Event.{Event}
use Rattle.rex_event.specs.declared.delta.Cause.{Cause}
use Rattle.rex_event.specs.declared.delta.Delta.{Delta}
use Rattle.rex_event.specs.Limits.{most_lanes}
use Rattle.rex_event.specs.Conflict.{named_semaphore}
use Rattle.rex_event.specs.Cuts.{count_at, counted}
use Rattle.rex_event.specs.declared.event.TheConstants.{CLIENTS, SEQUENCES}
use Rattle.rex_event.specs.declared.delta.TheConstants.{DELTA_EVENTS}
use Rattle.rex_wire.specs.Reading.{Left, Reading, ◌>>=◌, number_at, signed_at, allowed_at, whole}
use Rattle.rex_delta.specs.Spelling.{is_between, greatest_base, has_event, others_below}
use Rattle.rex_delta.specs.declared.limits.TheConstants.{PLACES}
use Rattle.rex_list.specs.declared.arguments.TheConstants.{ARGUMENTS}

-- a number from 1 on as one from 0
unfoldable pub place_at : Left → Reading ℕ
place_at l = do
  n ← allowed_at w8 (is_between 1 PLACES) l
  Ok (n.0 - 1, n.1)

-- as many arguments
unfoldable pub arguments_at : ℕ → Left → Reading (List ℤ)
arguments_at zero l = Ok ([], l)
arguments_at (suc n) l = do
  first ← signed_at l
  others ← arguments_at n first.1
  Ok (first.0 ∷ others.0, others.1)

unfoldable pub begin_at : Left → Reading Kind
begin_at l = do
  client ← allowed_at w16 (is_between 1 CLIENTS) l
  sequence ← allowed_at w32 (is_between 1 SEQUENCES) client.1
  handler ← place_at sequence.1
  count ← allowed_at w8 (is_between 0 ARGUMENTS) handler.1
  arguments ← arguments_at count.0 count.1
  Ok (Begin client.0 sequence.0 handler.0 arguments.0, arguments.1)

-- a kind of one lock or semaphore
unfoldable pub lock_at : (ℕ → Kind) → Left → Reading Kind
lock_at make l = do
  lock ← place_at l
  Ok (make lock.0, lock.1)

-- a kind of a condition and its lock
unfoldable pub condition_at : (ℕ → ℕ → Kind) → Left → Reading Kind
condition_at make l = do
  condition ← place_at l
  lock ← place_at condition.1
  Ok (make condition.0 lock.0, lock.1)

-- the lane that a signal woke
abbrev pub woken_of : ℕ → Option ℕ
woken_of zero = None
woken_of (suc lane) = Some lane

unfoldable pub signal_at : ℕ → Left → Reading Kind
signal_at lanes l = do
  condition ← place_at l
  woken ← allowed_at w8 (is_between 0 lanes) condition.1
  Ok (Signal condition.0 (woken_of woken.0), woken.1)

unfoldable pub broadcast_at : ℕ → Left → Reading Kind
broadcast_at lanes l = do
  condition ← place_at l
  woken ← allowed_at w64 (λ bits. nat_lt bits (2 ^ lanes)) condition.1
  Ok (Broadcast condition.0 woken.0, woken.1)

unfoldable pub clock_at : Left → Reading Kind
clock_at l = do
  value ← signed_at l
  Ok (Clock value.0, value.1)

unfoldable pub random_at : Left → Reading Kind
random_at l = do
  value ← number_at w32 l
  Ok (Random value.0, value.1)

unfoldable pub reply_at : Left → Reading Kind
reply_at l = do
  client ← allowed_at w16 (is_between 1 CLIENTS) l
  value ← signed_at client.1
  Ok (Reply client.0 value.0, value.1)

-- what follows the number of a kind
abbrev pub content_at : ℕ → ℕ → Left → Reading Kind
content_at lanes code l =
    if code == 1 then begin_at l
    else if code == 2 then lock_at AcqEx l
    else if code == 3 then lock_at AcqSh l
    else if code == 4 then lock_at RelEx l
    else if code == 5 then lock_at RelSh l
    else if code == 6 then lock_at TryOk l
    else if code == 7 then lock_at TryBusy l
    else if code == 8 then condition_at Wait l
    else if code == 9 then condition_at Wake l
    else if code == 10 then signal_at lanes l
    else if code == 11 then broadcast_at lanes l
    else if code == 12 then clock_at l
    else if code == 13 then random_at l
    else if code == 14 then reply_at l
    else if code == 15 then lock_at Down l
    else lock_at Up l

-- a kind whose number is from the least to the greatest
unfoldable pub kind_at : ℕ → ℕ → ℕ → Left → Reading Kind
kind_at lanes least most l = do
  code ← allowed_at w8 (is_between least most) l
  content_at lanes code.0 code.1

-- it is the number of another lane that has an event between the counts, and is above the one before
abbrev pub may_be_cause : List ℕ → List ℕ → ℕ → ℕ → ℕ → Bool
may_be_cause bases counts lane above n =
    is_between (above + 1) (length counts) n && (not (n == lane + 1) && has_event bases counts (n - 1))

-- it is the index of an event of the lane between the counts
abbrev pub may_be_index : List ℕ → List ℕ → ℕ → ℕ → Bool
may_be_index bases counts lane index = nat_le (count_at bases lane) index && nat_lt index (count_at counts lane)

-- a cause of an event of this lane, whose lane has a number above this one
unfoldable pub cause_at : List ℕ → List ℕ → ℕ → ℕ → Left → Reading Cause
cause_at bases counts lane above l = do
  of ← allowed_at w8 (may_be_cause bases counts lane above) l
  index ← allowed_at w32 (may_be_index bases counts (of.0 - 1)) of.1
  Ok (record { lane = of.0 - 1; index = index.0 }, index.1)

-- so many causes of an event of this lane, whose lanes have numbers above this one
unfoldable pub causes_at : List ℕ → List ℕ → ℕ → ℕ → ℕ → Left → Reading (List Cause)
causes_at bases counts lane zero above l = Ok ([], l)
causes_at bases counts lane (suc n) above l = do
  of ← allowed_at w8 (may_be_cause bases counts lane above) l
  index ← allowed_at w32 (may_be_index bases counts (of.0 - 1)) of.1
  others ← causes_at bases counts lane n of.0 index.1
  Ok ((record { lane = of.0 - 1; index = index.0 }) ∷ others.0, others.1)

-- an event and its causes, where lanes did so many events before the delta, and so many before this event, and its kind is in this range
unfoldable pub event_at : List ℕ → List ℕ → ℕ → ℕ → Left → Reading (Event × List Cause)
event_at bases counts least most l = do
  number ← allowed_at w8 (is_between 1 (length counts)) l
  kind ← kind_at (length counts) least most number.1
  count ← allowed_at w8 (λ n. nat_le n (others_below bases counts (number.0 - 1) (length counts))) kind.1
  causes ← causes_at bases counts (number.0 - 1) count.0 0 count.1
  Ok ((record { lane = number.0 - 1; index = count_at counts (number.0 - 1); kind = kind.0 }, causes.0), causes.1)

-- what is known before an event: how many events each lane did, the greatest kind, whether an event on a semaphore is due, and how many events come after this one
pub record Before : Type 0 where
  pub counts : List ℕ
  pub most : ℕ
  pub due : Bool
  pub later : ℕ

-- the least kind: the last event is on a semaphore where one is due
abbrev pub least_kind : Bool → ℕ → ℕ
least_kind due later = if due && later == 0 then 15 else 1

-- the greatest kind of a version
abbrev pub most_kind : ℕ → ℕ
most_kind version = if version == 2 then 16 else 14

-- what is known before the first of so many events: in version 2 one on a semaphore is due
abbrev pub first_before : ℕ → List ℕ → ℕ → Before
first_before version bases count = record { counts = bases; most = most_kind version; due = version == 2; later = count - 1 }

-- what is known after an event
abbrev pub after_event : Before → Event → Before
after_event b e = record { counts = counted b.counts e; most = b.most; due = b.due && not (is_some (named_semaphore e.kind)); later = b.later - 1 }

-- the next event with its causes
abbrev pub next_event_at : List ℕ → Before → Left → Reading (Event × List Cause)
next_event_at bases b l = event_at bases b.counts (least_kind b.due b.later) b.most l

-- so many events with their causes
unfoldable pub events_at : List ℕ → Before → ℕ → Left → Reading (List Event × List (List Cause))
events_at bases b zero l = Ok (([], []), l)
events_at bases b (suc n) l = do
  first ← next_event_at bases b l
  others ← events_at bases (after_event b first.0.0) n first.1
  Ok ((first.0.0 ∷ others.0.0, first.0.1 ∷ others.0.1), others.1)

-- so many bases
unfoldable pub bases_at : ℕ → Left → Reading (List ℕ)
bases_at zero l = Ok ([], l)
bases_at (suc n) l = do
  first ← allowed_at w32 (λ base. nat_le base greatest_base) l
  others ← bases_at n first.1
  Ok (first.0 ∷ others.0, others.1)

-- a delta at the front of bytes
unfoldable pub delta_at : Left → Reading Delta
delta_at l = do
  version ← allowed_at w8 (is_between 1 2) l
  lanes ← allowed_at w8 (is_between 1 most_lanes) version.1
  bases ← bases_at lanes.0 lanes.1
  count ← allowed_at w16 (is_between 1 DELTA_EVENTS) bases.1
  events ← events_at bases.0 (first_before version.0 bases.0 count.0) count.0 count.1
  Ok (record { bases = bases.0; events = events.0.0; causes = events.0.1 }, events.1)

-- a delta that is all of the bytes, or the offset at which the first bad field begins; of bytes after a whole delta that is its length
unfoldable pub delta_in : List ℕ → Result Delta ℕ
delta_in bytes = whole delta_at bytes
