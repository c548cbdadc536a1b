-- A state as the parts of its snapshot, and back.
use Rattle.std.specs.Prelude.{◌==◌, ℕ, ◌+◌, ◌≤◌, List, [], ◌∷◌, ◌++◌, map, Option, slice_set, if◌then◌else◌}
use Rattle.std.specs.List.{position}
use Rattle.rex_syntax.specs.declared.version.Version.{Version}
use Rattle.rex_state.specs.declared.lane.Lane.{Lane}
use Rattle.rex_state.specs.declared.lane.Queue.{Queue}
use Rattle.rex_state.specs.declared.lane.Entry.{Entry}
use Rattle.rex_state.specs.Value.{StateValue}
use Rattle.rex_state.specs.Machine.{is_in}
use Rattle.rex_state.specs.Start.{no_entries}
use Rattle.rex_snapshot.specs.declared.parts.Seat.{Seat}
use Rattle.rex_snapshot.specs.declared.parts.Known.{Known}
use Rattle.rex_snapshot.specs.declared.parts.Parts.{Parts}
use Rattle.rex_event.specs.declared.event.TheConstants.{CLIENTS}

-- ---- a state's parts

-- the condition in whose queue a lane waits
abbrev pub waits_in : List Queue → ℕ → Option ℕ
waits_in queues lane = position (λ q. is_in lane q.lanes.items) queues

-- a lane with the condition at which it waits
abbrev pub seat_of : Lane → Option ℕ → Seat
seat_of lane waits = record { lane = lane; waits = waits }

-- the lanes from this number on, each with the condition at which it waits
abbrev pub seats_from : List Queue → ℕ → List Lane → List Seat
seats_from queues n [] = []
seats_from queues n (lane ∷ lanes) = seat_of lane (waits_in queues n) ∷ seats_from queues (n + 1) lanes

-- a client with what is known of it
abbrev pub known_of : ℕ → Entry → Known
known_of client entry = record { client = client; entry = entry }

-- the client if it has sent something
abbrev pub known_if : ℕ → Entry → List Known
known_if client entry = if entry.sequence == 0 then [] else known_of client entry ∷ []

-- the clients from this number on that have sent something
abbrev pub known_from : ℕ → List Entry → List Known
known_from n [] = []
known_from n (e ∷ es) = known_if n e ++ known_from (n + 1) es

-- a state's parts in a version: its lanes, its variables, its queues, its semaphores' values, and its clients that have sent something
abbrev pub parts_of : Version → StateValue → Parts
parts_of version s = record { version = version; seats = seats_from s.queues 0 s.lanes; variables = s.variables; queues = s.queues; semaphores = s.semaphores; clients = known_from 0 s.clients }

-- ---- a state of parts

-- the lane of a seat
abbrev pub lane_in : Seat → Lane
lane_in s = s.lane

-- the client has a place among the entries
pub record HasPlace (k : Known) : Type 0 where
  pub inside : k.client ≤ CLIENTS

-- the entries with those of these clients in their places
abbrev pub entered : List Entry → List Known → List Entry
entered entries [] = entries
entered entries (k ∷ ks) = entered (slice_set entries k.client k.entry) ks

-- the state of these parts, whatever their version; who isn't among its clients has sent nothing
abbrev pub state_of : Parts → StateValue
state_of p = record { variables = p.variables; lanes = map lane_in p.seats; queues = p.queues; semaphores = p.semaphores; clients = entered no_entries p.clients }
