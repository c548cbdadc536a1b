-- Reading a snapshot from left to right, a field a line, with the first field that is absent, cut short or not allowed.
pub use Rattle.rex_wire.specs.Decoding.{Gives}
use Rattle.std.specs.Prelude.{◌≡◌, ◌==◌, ℕ, ◌+◌, ◌-◌, ℤ, pos, Bool, nat_le, List, [], ◌∷◌, ◌++◌, length, Option, Some, None, slice_index_or, Result, Ok, Err, FitsSigned, if◌then◌else◌}
use Rattle.std.specs.Int.{w8, w16, w32, w64}
use Rattle.std.specs.List.{All}
use Rattle.std.specs.Ordering.{int_eq}
use Rattle.arrayvec.specs.ArrayVec.{ArrayVec}
use Rattle.rex_syntax.specs.declared.line.Line.{Line}
use Rattle.rex_syntax.specs.declared.locks.Lockset.{Lockset}
use Rattle.rex_syntax.specs.declared.service.Declarations.{Declarations}
use Rattle.rex_syntax.specs.Locks.{no_locks}
use Rattle.rex_syntax.specs.declared.version.Version.{Version}
use Rattle.rex_syntax.specs.declared.version.Version.TheVariants.{One, Two}
use Rattle.rex_syntax.specs.Shape.{open_at}
use Rattle.rex_frame.specs.declared.frame.Phase.{Phase}
use Rattle.rex_frame.specs.declared.frame.Phase.TheVariants.{Running, Waiting}
use Rattle.rex_frame.specs.declared.frame.Turn.{Turn}
use Rattle.rex_frame.specs.declared.frame.Frame.{Frame}
use Rattle.rex_frame.specs.Handlers.{lines_of, locals_of}
use Rattle.rex_frame.specs.Weights.{turns_of}
use Rattle.rex_state.specs.declared.lane.Queue.{Queue}
use Rattle.rex_state.specs.Value.{StateValue}
use Rattle.rex_wire.specs.Ranges.{is_between}
use Rattle.rex_wire.specs.Reading.{Left, Reading, ◌>>=◌, signed_at, allowed_at, list_at, whole}
use Rattle.rex_snapshot.specs.declared.parts.Seat.{Seat}
use Rattle.rex_snapshot.specs.declared.parts.Known.{Known}
use Rattle.rex_snapshot.specs.declared.parts.Change.{Change}
use Rattle.rex_snapshot.specs.declared.parts.Parts.{Parts}
use Rattle.rex_snapshot.specs.Locksets.{line_in, lockset_at}
use Rattle.rex_snapshot.specs.Spelling.{greatest_count}
use Rattle.rex_snapshot.specs.Parts.{state_of}
use Rattle.rex_snapshot.specs.Semaphores.{levels_at}
use Rattle.rex_snapshot.specs.Changes.{firsts, change_of, changed}
use Rattle.rex_snapshot.specs.Allowed.{version_of, may_be_version, may_be_new_client, may_be_line, condition_of, waiters, may_be_waiter, may_be_count, may_be_client, may_be_sequence, may_be_replied}
use Rattle.rex_event.specs.declared.event.TheConstants.{SEQUENCES}

-- ---- values one after the other

-- each value is read alike
abbrev pub alike : {A : Type 0} → Unit {0} → A → Unit {0}
alike s x = s

-- values are read by those before them
abbrev pub with_last : {A : Type 0} → List A → A → List A
with_last xs x = xs ++ x ∷ []

-- values are read by their numbers
abbrev pub counted : {A : Type 0} → ℕ → A → ℕ
counted n x = n + 1

-- the values that were read, kept in an array
abbrev pub into_array : {A : Type 0} → Reading (List A) → Reading (ArrayVec A)
into_array read = read >>= λ xs. Ok (record { items = xs.0 }, xs.1)

-- a signed number of 64 bits
abbrev pub value_at : Unit {0} → Left → Reading ℤ
value_at s l = signed_at l

-- so many of them
abbrev pub values_at : ℕ → Left → Reading (List ℤ)
values_at n l = list_at value_at alike n tt l

-- ---- lanes

-- how many turns are left of an open loop with this body
unfoldable pub turn_at : List Line → ℕ → Left → Reading Turn
turn_at lines body l = do
  left ← allowed_at w16 (is_between 1 (turns_of lines body)) l
  Ok (record { body = body; left = left.0 }, left.1)

-- the same of the loop with this number, outermost first
abbrev pub turn_of_at : List Line → List ℕ → ℕ → Left → Reading Turn
turn_of_at lines bodies n l = turn_at lines (slice_index_or bodies n 0) l

-- the same for all open loops
abbrev pub turns_at : List Line → List ℕ → Left → Reading (List Turn)
turns_at lines bodies l = list_at (turn_of_at lines bodies) counted (length bodies) 0 l

-- the phase of a lane that runs, or of one that doesn't
abbrev pub phase_of : Bool → Phase
phase_of runs = if runs then Running else Waiting

-- a lane that runs holds what its line says, and one that waits or was signalled nothing
abbrev pub held_by : Declarations → Bool → ℕ → ℕ → Lockset
held_by service runs handler place = if runs then lockset_at service handler place else no_locks

-- the line at which a lane after these lanes stands, from 0
unfoldable pub line_at : Declarations → List Seat → Bool → ℕ → Left → Reading ℕ
line_at service earlier runs handler l = do
  n ← allowed_at w16 (may_be_line service earlier runs handler) l
  Ok (n.0 - 1, n.1)

-- the number of a handler, from 0
unfoldable pub handler_at : Declarations → Left → Reading ℕ
handler_at service l = do
  n ← allowed_at w8 (is_between 1 (length service.handlers)) l
  Ok (n.0 - 1, n.1)

-- the frame of a lane after these lanes, which runs or doesn't
unfoldable pub frame_at : Declarations → List Seat → Bool → Left → Reading Frame
frame_at service earlier runs l = do
  client ← allowed_at w16 (may_be_new_client earlier) l
  sequence ← allowed_at w32 (is_between 1 SEQUENCES) client.1
  handler ← handler_at service sequence.1
  place ← line_at service earlier runs handler.0 handler.1
  locals ← into_array (values_at (locals_of service handler.0) place.1)
  turns ← into_array (turns_at (lines_of service handler.0) (open_at (lines_of service handler.0) place.0) locals.1)
  Ok (
    record {
      client = client.0;
      sequence = sequence.0;
      handler = handler.0;
      place = place.0;
      locals = locals.0;
      turns = turns.0;
      held = held_by service runs handler.0 place.0;
      phase = phase_of runs;
    },
    turns.1,
  )

-- the condition at which a lane waits, if its status says so
abbrev pub waits_by : Declarations → ℕ → Frame → Option ℕ
waits_by service status f = if status == 2 then condition_of (line_in (lines_of service f.handler) f.place) else None

-- a busy lane that did so many events, after its status
unfoldable pub busy_at : Declarations → List Seat → ℕ → ℕ → Left → Reading Seat
busy_at service earlier done status l = do
  frame ← frame_at service earlier (status == 1) l
  Ok (record { lane = record { done = done; frame = Some frame.0 }; waits = waits_by service status frame.0 }, frame.1)

-- an idle lane that did so many events
abbrev pub idle_seat : ℕ → Seat
idle_seat done = record { lane = record { done = done; frame = None }; waits = None }

-- the same for any lane: status 0 is that of an idle one
abbrev pub placed_at : Declarations → List Seat → ℕ → ℕ → Left → Reading Seat
placed_at service earlier done status l = if status == 0 then Ok (idle_seat done, l) else busy_at service earlier done status l

-- a lane after these lanes
unfoldable pub seat_at : Declarations → List Seat → Left → Reading Seat
seat_at service earlier l = do
  done ← allowed_at w32 (λ n. nat_le n greatest_count) l
  status ← allowed_at w8 (λ n. nat_le n 3) done.1
  placed_at service earlier done.0 status.0 status.1

-- so many lanes
abbrev pub seats_at : Declarations → ℕ → Left → Reading (List Seat)
seats_at service n l = list_at (seat_at service) with_last n [] l

-- ---- queues

-- a lane that waits at the condition, after these
unfoldable pub waiter_at : List Seat → ℕ → List ℕ → Left → Reading ℕ
waiter_at seats condition earlier l = do
  n ← allowed_at w8 (may_be_waiter seats condition earlier) l
  Ok (n.0 - 1, n.1)

-- the lanes that wait at the condition with this number
unfoldable pub queue_at : List Seat → ℕ → Left → Reading Queue
queue_at seats condition l = do
  count ← allowed_at w8 (λ n. n == waiters seats condition) l
  lanes ← into_array (list_at (waiter_at seats condition) with_last count.0 [] count.1)
  Ok (record { lanes = lanes.0 }, lanes.1)

-- the lanes that wait at each of so many conditions
abbrev pub queues_at : List Seat → ℕ → Left → Reading (List Queue)
queues_at seats n l = list_at (queue_at seats) counted n 0 l

-- ---- clients

-- a reply's value
unfoldable pub given_at : Left → Reading (Option ℤ)
given_at l = do
  value ← signed_at l
  Ok (Some value.0, value.1)

-- a reply, where one was given
abbrev pub reply_at : ℕ → Left → Reading (Option ℤ)
reply_at replied l = if replied == 0 then Ok (None, l) else given_at l

-- the client before the next one, and how many follow that one
abbrev pub after_client : ℕ × ℕ → Known → ℕ × ℕ
after_client s k = (k.client, s.1 - 1)

-- a client that has sent something, after the client `s.0`, with `s.1` more after it
unfoldable pub known_at : List Seat → ℕ × ℕ → Left → Reading Known
known_at seats s l = do
  client ← allowed_at w16 (may_be_client seats s.0 s.1) l
  sequence ← allowed_at w32 (may_be_sequence seats client.0) client.1
  replied ← allowed_at w8 (may_be_replied seats client.0) sequence.1
  reply ← reply_at replied.0 replied.1
  Ok (record { client = client.0; entry = record { sequence = sequence.0; reply = reply.0 } }, reply.1)

-- so many clients that have sent something
abbrev pub clients_at : List Seat → ℕ → Left → Reading (List Known)
clients_at seats n l = list_at (known_at seats) after_client n (0, n - 1) l

-- ---- variables

-- a value that isn't the first one
unfoldable pub other_at : ℤ → Left → Reading ℤ
other_at first l = do
  value ← signed_at l
  if int_eq value.0 first then Err l.at else Ok value

-- a variable from this number on, with a value that isn't its first
unfoldable pub change_at : Declarations → ℕ → Left → Reading Change
change_at service least l = do
  n ← allowed_at w16 (is_between (least + 1) (length service.variables)) l
  value ← other_at (slice_index_or (firsts service) (n.0 - 1) (pos 0)) n.1
  Ok (change_of (n.0 - 1) value.0, value.1)

-- the number after the variable
abbrev pub after_change : ℕ → Change → ℕ
after_change least c = c.variable + 1

-- so many variables
abbrev pub changes_at : Declarations → ℕ → Left → Reading (List Change)
changes_at service n l = list_at (change_at service) after_change n 0 l

-- the values of which some aren't the first ones
unfoldable pub changed_at : Declarations → Left → Reading (List ℤ)
changed_at service l = do
  count ← allowed_at w16 (is_between 0 (length service.variables)) l
  changes ← changes_at service count.0 count.1
  Ok (changed (firsts service) changes.0, changes.1)

-- the variables' values, as the version has them
abbrev pub variables_at : Declarations → Version → Left → Reading (List ℤ)
variables_at service One l = values_at (length service.variables) l
variables_at service Two l = changed_at service l

-- ---- a snapshot

-- a version
unfoldable pub version_at : Declarations → Left → Reading Version
version_at service l = do
  n ← allowed_at w8 (may_be_version service) l
  Ok (version_of n.0, n.1)

-- a snapshot's parts at the front of bytes
unfoldable pub parts_at : Declarations → Left → Reading Parts
parts_at service l = do
  version ← version_at service l
  lanes ← allowed_at w8 (λ n. n == service.lanes) version.1
  seats ← seats_at service lanes.0 lanes.1
  variables ← variables_at service version.0 seats.1
  queues ← queues_at seats.0 (length service.conditions) variables.1
  semaphores ← levels_at (length service.semaphores) queues.1
  count ← allowed_at w16 (may_be_count seats.0) semaphores.1
  clients ← clients_at seats.0 count.0 count.1
  Ok (record { version = version.0; seats = seats.0; variables = variables.0; queues = queues.0; semaphores = semaphores.0; clients = clients.0 }, clients.1)

-- the parts of a snapshot that is all of the bytes, or the offset at which the first bad field begins; of bytes after a whole snapshot that is its length
unfoldable pub parts_in : Declarations → List ℕ → Result Parts ℕ
parts_in service bytes = whole (parts_at service) bytes

-- the state that the bytes spell, or the offset at which the first bad field begins
unfoldable pub state_in : Declarations → List ℕ → Result StateValue ℕ
state_in service bytes = do
  parts ← parts_in service bytes
  Ok (state_of parts)

-- a state of parts that the bytes spell
pub record IsReadState (service : Declarations) (bytes : List ℕ) (s : StateValue) : Type 0 where
  pub parts : Parts
  pub read : parts_in service bytes ≡ Ok parts
  pub typed : All (FitsSigned w64) parts.variables
  pub is : s ≡ state_of parts
