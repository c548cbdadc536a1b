-- Which fields of a snapshot are allowed after those before them.
use Rattle.std.specs.Prelude.{◌≡◌, ◌==◌, ℕ, ◌+◌, ◌-◌, ◌&&◌, Bool, true, false, not, List, length, nat_eq, nat_lt, nat_le, Option, Some, None, slice_index_or, if◌then◌else◌}
use Rattle.std.specs.List.{list_all, list_any, count_by}
use Rattle.rex_syntax.specs.declared.line.Line.{Line}
use Rattle.rex_syntax.specs.declared.line.Line.TheVariants.{Wait}
use Rattle.rex_syntax.specs.declared.locks.Lockset.{Lockset}
use Rattle.rex_syntax.specs.declared.service.Declarations.{Declarations}
use Rattle.rex_syntax.specs.declared.version.Version.{Version}
use Rattle.rex_syntax.specs.declared.version.Version.TheVariants.{One, Two}
use Rattle.rex_syntax.specs.Versions.{has_version}
use Rattle.rex_frame.specs.declared.frame.Frame.{Frame}
use Rattle.rex_frame.specs.Handlers.{lines_of}
use Rattle.rex_frame.specs.Step.{is_primitive}
use Rattle.rex_state.specs.Touched.{held_in}
use Rattle.rex_state.specs.Machine.{is_in, no_lane}
use Rattle.rex_wire.specs.Ranges.{is_between}
use Rattle.rex_snapshot.specs.declared.parts.Seat.{Seat}
use Rattle.rex_snapshot.specs.declared.ahead.Ahead.{Ahead}
use Rattle.rex_snapshot.specs.Locksets.{line_in, lockset_at, is_apart}
use Rattle.rex_event.specs.declared.event.TheConstants.{CLIENTS, SEQUENCES}

-- ---- versions

-- the version with this number
abbrev pub version_of : ℕ → Version
version_of n = if n == 1 then One else Two

-- the number of a version that the service's states have
abbrev pub may_be_version : Declarations → ℕ → Bool
may_be_version service n = is_between 1 2 n && has_version service (version_of n)

-- the version of bytes that are a snapshot, by the first of them
abbrev pub version_in : List ℕ → Version
version_in bytes = version_of (slice_index_or bytes 0 0)

-- ---- clients of lanes

-- the lane serves the client
abbrev pub serves : ℕ → Option Frame → Bool
serves client None = false
serves client (Some f) = nat_eq f.client client

-- some lane serves the client
abbrev pub is_served : List Seat → ℕ → Bool
is_served seats client = list_any (λ s. serves client s.lane.frame) seats

-- a client that no earlier lane serves
abbrev pub may_be_new_client : List Seat → ℕ → Bool
may_be_new_client earlier client = is_between 1 CLIENTS client && not (is_served earlier client)

-- ---- lines

-- the condition at which a line waits
abbrev pub condition_of : Line → Option ℕ
condition_of (Wait condition test) = Some condition
condition_of _ = None

-- a lane waits at the line
abbrev pub is_wait_line : Line → Bool
is_wait_line (Wait condition test) = true
is_wait_line _ = false

-- no lane holds a lock that conflicts with one of these
abbrev pub all_apart : List Seat → Lockset → Bool
all_apart earlier held = list_all (λ s. is_apart (held_in s.lane.frame) held) earlier

-- a lane that runs stands at a primitive's line whose locks earlier lanes leave it, and another one at a `wait` line
abbrev pub may_stand : Declarations → List Seat → Bool → ℕ → ℕ → Bool
may_stand service earlier true handler place = is_primitive (line_in (lines_of service handler) place) && all_apart earlier (lockset_at service handler place)
may_stand service earlier false handler place = is_wait_line (line_in (lines_of service handler) place)

-- the number of such a line
abbrev pub may_be_line : Declarations → List Seat → Bool → ℕ → ℕ → Bool
may_be_line service earlier runs handler n = is_between 1 (length (lines_of service handler)) n && may_stand service earlier runs handler (n - 1)

-- ---- queues

-- what stands for a lane that isn't there
abbrev pub no_seat : Seat
no_seat = record { lane = no_lane; waits = None }

-- this condition
abbrev pub is_condition : ℕ → Option ℕ → Bool
is_condition condition None = false
is_condition condition (Some other) = nat_eq other condition

-- how many lanes wait at the condition
abbrev pub waiters : List Seat → ℕ → ℕ
waiters seats condition = count_by (λ s. is_condition condition s.waits) seats

-- the number of a lane that waits at the condition and isn't among those named before
abbrev pub may_be_waiter : List Seat → ℕ → List ℕ → ℕ → Bool
may_be_waiter seats condition earlier n = is_between 1 (length seats) n && (is_condition condition (slice_index_or seats (n - 1) no_seat).waits && not (is_in (n - 1) earlier))

-- ---- clients

-- the lane is busy
abbrev pub is_busy : Option Frame → Bool
is_busy None = false
is_busy (Some f) = true

-- enough clients for the busy lanes
abbrev pub may_be_count : List Seat → ℕ → Bool
may_be_count seats n = is_between (count_by (λ s. is_busy s.lane.frame) seats) CLIENTS n

-- the lane's client is above this one
abbrev pub is_beyond : ℕ → Option Frame → Bool
is_beyond client None = false
is_beyond client (Some f) = nat_lt client f.client

-- the lane's client is between these two
abbrev pub is_skipped : ℕ → ℕ → Option Frame → Bool
is_skipped above client None = false
is_skipped above client (Some f) = nat_lt above f.client && nat_lt f.client client

-- a client above the one before that skips no lane's client, and whose followers are enough for the lanes' clients above it
abbrev pub may_be_client : List Seat → ℕ → ℕ → ℕ → Bool
may_be_client seats above left n =
    is_between (above + 1) CLIENTS n
    && (list_all (λ s. not (is_skipped above n s.lane.frame)) seats
    && nat_le (count_by (λ s. is_beyond n s.lane.frame) seats) left)

-- the frame has the sequence, if it is the client's
abbrev pub has_sequence : ℕ → ℕ → Option Frame → Bool
has_sequence client n None = true
has_sequence client n (Some f) = if nat_eq f.client client then nat_eq f.sequence n else true

-- a sequence in its range, which is that of the client's frame if there is one
abbrev pub may_be_sequence : List Seat → ℕ → ℕ → Bool
may_be_sequence seats client n = is_between 1 SEQUENCES n && list_all (λ s. has_sequence client n s.lane.frame) seats

-- 0, for no reply, exactly where a lane serves the client; otherwise 1
abbrev pub may_be_replied : List Seat → ℕ → ℕ → Bool
may_be_replied seats client n = if is_served seats client then (n == 0) else (n == 1)

-- no lane's client is between this one and the next, and so many are above this one
pub record IsAhead (seats : List Seat) (above : ℕ) (a : Ahead) : Type 0 where
  pub none_between : list_any (λ s. is_skipped above a.next s.lane.frame) seats ≡ false
  pub count_is : a.count ≡ count_by (λ s. is_beyond above s.lane.frame) seats

-- a client is above this one, and below the next one that a lane serves
abbrev pub is_unserved : ℕ → Ahead → ℕ → Bool
is_unserved above a client = nat_lt above client && nat_lt client a.next
