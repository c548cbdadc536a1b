-- What a state's snapshot is, and which states have one.
use Rattle.std.specs.Prelude.{◌≡◌, ℕ, ◌+◌, ◌≤◌, true, ℤ, List, ◌++◌, length, Option, Some, None, IfSome, FitsSigned}
use Rattle.std.specs.List.{All, flat_map}
use Rattle.std.specs.Int.{w16, w32, w64, to_be_bytes}
use Rattle.rex_syntax.specs.declared.service.Declarations.{Declarations}
use Rattle.rex_syntax.specs.declared.version.Version.{Version}
use Rattle.rex_syntax.specs.declared.version.Version.TheVariants.{One, Two}
use Rattle.rex_syntax.specs.Versions.{number_of, has_version}
use Rattle.rex_frame.specs.declared.frame.Phase.{Phase}
use Rattle.rex_frame.specs.declared.frame.Phase.TheVariants.{Running, Waiting}
use Rattle.rex_frame.specs.declared.frame.Turn.{Turn}
use Rattle.rex_frame.specs.declared.frame.Frame.{Frame}
use Rattle.rex_state.specs.declared.lane.Lane.{Lane}
use Rattle.rex_state.specs.declared.lane.Queue.{Queue}
use Rattle.rex_state.specs.declared.lane.Entry.{Entry}
use Rattle.rex_state.specs.Value.{StateValue}
use Rattle.rex_state.specs.Machine.{entry_at, no_entry}
use Rattle.rex_wire.specs.Spelling.{byte, signed}
use Rattle.rex_snapshot.specs.declared.parts.Seat.{Seat}
use Rattle.rex_snapshot.specs.declared.parts.Known.{Known}
use Rattle.rex_snapshot.specs.declared.parts.Change.{Change}
use Rattle.rex_snapshot.specs.declared.parts.Parts.{Parts}
use Rattle.rex_snapshot.specs.Parts.{parts_of}
use Rattle.rex_snapshot.specs.Semaphores.{level_bytes}
use Rattle.rex_snapshot.specs.Changes.{changes_of}
use Rattle.rex_event.specs.declared.delta.TheConstants.{HISTORY_EVENTS}
use Rattle.rex_event.specs.declared.event.TheConstants.{SEQUENCES}

-- ---- spelling; lanes, handlers, lines and variables are spelled with numbers from 1

-- how many turns of an open loop are left
abbrev pub turn_bytes : Turn → List ℕ
turn_bytes t = to_be_bytes w16 t.left

-- a frame: what it holds and its loops' bodies aren't spelled, since its line says them
abbrev pub frame_bytes : Frame → List ℕ
frame_bytes f = to_be_bytes w16 f.client ++ to_be_bytes w32 f.sequence ++ byte (f.handler + 1) ++ to_be_bytes w16 (f.place + 1) ++ flat_map signed f.locals.items ++ flat_map turn_bytes f.turns.items

-- the status of a busy lane: 1 where it runs, 2 where it waits in a queue, and 3 where it waits and was signalled, so that it is in no queue any more
abbrev pub status_of : Phase → Option ℕ → ℕ
status_of Running waits = 1
status_of Waiting (Some condition) = 2
status_of Waiting None = 3

-- a lane's status, which is 0 for an idle one, and its frame
abbrev pub busy_bytes : Option Frame → Option ℕ → List ℕ
busy_bytes None waits = byte 0
busy_bytes (Some f) waits = byte (status_of f.phase waits) ++ frame_bytes f

-- how many events a lane did, its status and its frame
abbrev pub seat_bytes : Seat → List ℕ
seat_bytes s = to_be_bytes w32 s.lane.done ++ busy_bytes s.lane.frame s.waits

-- a lane that waits
abbrev pub waiter_bytes : ℕ → List ℕ
waiter_bytes lane = byte (lane + 1)

-- how many lanes wait at a condition, and which, in the order of waiting
abbrev pub queue_bytes : Queue → List ℕ
queue_bytes q = byte (length q.lanes.items) ++ flat_map waiter_bytes q.lanes.items

-- whether there is a reply, and the reply
abbrev pub reply_bytes : Option ℤ → List ℕ
reply_bytes None = byte 0
reply_bytes (Some value) = byte 1 ++ signed value

-- a client, its last sequence, and the reply to it
abbrev pub known_bytes : Known → List ℕ
known_bytes k = to_be_bytes w16 k.client ++ to_be_bytes w32 k.entry.sequence ++ reply_bytes k.entry.reply

-- a variable with its value
abbrev pub change_bytes : Change → List ℕ
change_bytes c = to_be_bytes w16 (c.variable + 1) ++ signed c.value

-- how many variables there are, and those
abbrev pub changes_bytes : List Change → List ℕ
changes_bytes cs = to_be_bytes w16 (length cs) ++ flat_map change_bytes cs

-- the variables' values: version 1 has them all, and version 2 those that aren't the first ones
abbrev pub variables_bytes : Declarations → Version → List ℤ → List ℕ
variables_bytes service One values = flat_map signed values
variables_bytes service Two values = changes_bytes (changes_of service values)

-- the version, how many lanes there are, the lanes, the variables, the queues, the semaphores' values, how many clients have sent something, and those clients; the versions differ in the variables alone
abbrev pub parts_bytes : Declarations → Parts → List ℕ
parts_bytes service p =
    byte (number_of p.version) ++ byte (length p.seats) ++ flat_map seat_bytes p.seats ++ variables_bytes service p.version p.variables ++ flat_map queue_bytes p.queues ++ flat_map level_bytes p.semaphores ++ to_be_bytes w16 (length p.clients) ++ flat_map known_bytes p.clients

-- a state's snapshot of a version
abbrev pub state_bytes : Declarations → Version → StateValue → List ℕ
state_bytes service version s = parts_bytes service (parts_of version s)

-- ---- ranges

-- the most events that a lane did: as many as a history has
abbrev pub greatest_count : ℕ
greatest_count = HISTORY_EVENTS

-- the lane did few enough events
pub record HasFewEvents (lane : Lane) : Type 0 where
  pub few : lane.done ≤ greatest_count

-- the sequence is in its range, and a client that has sent nothing has no reply
pub record EntryFits (e : Entry) : Type 0 where
  pub few : e.sequence ≤ SEQUENCES
  pub none : e.sequence ≡ 0 → e.reply ≡ None

-- a state whose counts of events and sequences are in their ranges, and whose clients have the numbers from 1 on
pub record IsLimited (s : StateValue) : Type 0 where
  pub lanes : All HasFewEvents s.lanes
  pub nobody : entry_at s.clients 0 ≡ no_entry
  pub entries : All EntryFits s.clients

-- ---- numbers that their types keep

-- the locals of a frame are signed numbers of 64 bits
abbrev pub FrameIsTyped : Frame → Type 0
FrameIsTyped f = All (FitsSigned w64) f.locals.items

-- the same for a lane, which may be idle
pub record LaneIsTyped (lane : Lane) : Type 0 where
  pub locals : IfSome lane.frame FrameIsTyped

-- a client's reply, if there is one, is a signed number of 64 bits
pub record EntryIsTyped (e : Entry) : Type 0 where
  pub reply : IfSome e.reply (FitsSigned w64)

-- the values in a state are signed numbers of 64 bits
pub record IsTyped (s : StateValue) : Type 0 where
  pub variables : All (FitsSigned w64) s.variables
  pub lanes : All LaneIsTyped s.lanes
  pub entries : All EntryIsTyped s.clients

-- what a sound state has to be to have a snapshot
pub record HasSpelling (s : StateValue) : Type 0 where
  pub limited : IsLimited s
  pub typed : IsTyped s

-- the bytes are the state's snapshot, in a version that the service's states have
pub record IsSnapshot (service : Declarations) (s : StateValue) (bytes : List ℕ) : Type 0 where
  pub version : Version
  pub has : has_version service version ≡ true
  pub is : bytes ≡ state_bytes service version s
