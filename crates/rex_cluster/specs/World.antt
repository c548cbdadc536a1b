-- A world of nodes, and what a schedule line does to it.
use Rattle.std.specs.Prelude.{ℕ, zero, suc, ◌+◌, ◌-◌, ◌==◌, Bool, true, false, List, [], ◌∷◌, ◌++◌, length, map, drop, replicate, Option, Some, None, slice_get, slice_set, get_or, if◌then◌else◌}
use Rattle.rex_syntax.specs.declared.request.Request.{Request}
use Rattle.rex_syntax.specs.declared.service.Declarations.{Declarations}
use Rattle.rex_state.specs.Value.{StateValue}
use Rattle.rex_report.specs.declared.effect.Effect.{Effect}
use Rattle.rex_report.specs.declared.effect.Effect.TheVariants.{Sent, Delivered, NoMessage, Nothing, IsDown, IsUp}
use Rattle.rex_schedule.specs.declared.scenario.ScheduleLine.{ScheduleLine}
use Rattle.rex_schedule.specs.declared.scenario.ScheduleLine.TheVariants.{Elect, Submit, Lane, Cut, CutBelow, Deliver, Flush, Replay, Ask, Stop, Start, Checkpoint, DropKnown, KeepFail, ReadVariable}
use Rattle.rex_cluster.specs.Node.{Message, Node, Service, kind_of, is_active, new_node, down_node}
use Rattle.rex_cluster.specs.Quorum.{Logs}
use Rattle.rex_cluster.specs.Calls.{begin, elect, receive, ask, replay, checkpoint, drop_known, stop, start, arm}
use Rattle.rex_cluster.specs.Values.{Value, service_of}
use Rattle.rex_reads.specs.declared.seen.Read.{Read}
use Rattle.rex_reads.specs.Reads.{seen_after}
use Rattle.rex_cluster.specs.Reading.{nothing_seen, stamp_at, seen_by_releases, read_at, read_effect}
use Rattle.rex_cluster.specs.Lanes.{Here, CallHere, active_only, submit_request, lane_turn, cut, no_limits, with_limits}

-- how many lines were done; the nodes from 1 on; all messages that were ever sent, in their order; for each whether a line handed it over; and for each client number, from 0 on, of how many agreed values the client has seen something
pub record World : Type 0 where
  pub done : ℕ
  pub nodes : List Here
  pub messages : List (Message Value)
  pub handed : List Bool
  pub seen : List ℕ

-- a node by its number, from 1; none is down
abbrev pub node_at : {V S : Type 0} → List (Node V S) → ℕ → Node V S
node_at [] m = down_node [] None
node_at (x ∷ xs) m = if m == 1 then x else node_at xs (m - 1)

-- the nodes with another one at its number
abbrev pub put : {V S : Type 0} → List (Node V S) → ℕ → Node V S → List (Node V S)
put [] m y = []
put (x ∷ xs) m y = if m == 1 then y ∷ xs else x ∷ put xs (m - 1) y

-- the records of each node
abbrev pub logs : World → Logs Value StateValue
logs w m = (node_at w.nodes m).log

-- before the first line, with n nodes
abbrev pub beginning : ℕ → World
beginning n = record { done = 0; nodes = replicate n new_node; messages = []; handed = []; seen = nothing_seen }

-- a world, and what was reported on the way there
pub record Row : Type 0 where
  pub world : World
  pub effects : List Effect

-- ---- one step

-- after a call of a node: what it sent is under the next numbers, and no line handed it over; and clients have seen the replies that it released
abbrev pub after : World → ℕ → CallHere → Row
after w m d = record {
  world = record w {
    nodes = put w.nodes m d.node;
    messages = w.messages ++ d.sends;
    handed = w.handed ++ replicate (length d.sends) false;
    seen = seen_by_releases (stamp_at d.node) d.effects w.seen;
  };
  effects = d.effects;
}

abbrev pub only : World → Effect → Row
only w e = record { world = w; effects = e ∷ [] }

-- a node that is up does this; one that is down does nothing
abbrev pub if_up : Bool → World → ℕ → CallHere → Row
if_up true w m d = after w m d
if_up false w m d = only w (IsDown m)

abbrev pub at_node : World → ℕ → (CallHere → CallHere) → Row
at_node w m call = if_up (node_at w.nodes m).up w m (call (begin (node_at w.nodes m)))

-- only a node that is down starts
abbrev pub start_if : Service Value StateValue → Bool → World → ℕ → Row
start_if sv true w m = only w (IsUp m)
start_if sv false w m = after w m (start sv m (begin (node_at w.nodes m)))

-- a client reads a variable at a node: nothing else changes than what it has seen, where it is told the value
abbrev pub read_row : World → ℕ → ℕ → ℕ → Read → Row
read_row w m client variable answer = record {
  world = record w { seen = slice_set w.seen client (seen_after (get_or w.seen client 0) answer) };
  effects = read_effect m client variable answer ∷ [];
}

-- what was reported comes after this
abbrev pub first_told : Effect → Row → Row
first_told e r = record r { effects = e ∷ r.effects }

-- the message with this number was handed over
abbrev pub with_handed : World → ℕ → World
with_handed w number = record w { handed = slice_set w.handed (number - 1) true }

-- a message is handed over to the node that it goes to
abbrev pub deliver_found : Declarations → ℕ → ℕ → World → ℕ → Option (Message Value) → Row
deliver_found service seed n w number None = only w (NoMessage number)
deliver_found service seed n w number (Some x) =
    first_told (Delivered number (kind_of x.content) x.from x.to) (at_node (with_handed w number) x.to (receive n (service_of service seed) x.to x.from x.content))

-- the message with a number from 1 on, if there is one
abbrev pub message_at : List (Message Value) → ℕ → Option (Message Value)
message_at messages zero = None
message_at messages (suc k) = slice_get messages k

-- what a schedule line but a flush does; the clock is the number of lines done before
abbrev pub step : Declarations → List Request → ℕ → ℕ → World → ScheduleLine → Row
step service requests seed n w (Elect m) = at_node w m (elect n (service_of service seed) m)
step service requests seed n w (Submit m r) = at_node w m (λ d. active_only (is_active d.node.role) d (submit_request service (slice_get requests r) d))
step service requests seed n w (Lane m lane) = at_node w m (λ d. active_only (is_active d.node.role) d (lane_turn service w.done lane d))
step service requests seed n w (Cut m) = at_node w m (λ d. cut service seed n m (no_limits service d.node) d)
step service requests seed n w (CutBelow m limits) = at_node w m (λ d. cut service seed n m (with_limits service d.node limits) d)
step service requests seed n w (Deliver number) = deliver_found service seed n w number (message_at w.messages number)
step service requests seed n w Flush = only w Nothing
step service requests seed n w (Replay m) = at_node w m (replay m)
step service requests seed n w (Ask m other) = at_node w m (ask m other)
step service requests seed n w (Stop m) = at_node w m (stop m)
step service requests seed n w (Start m) = start_if (service_of service seed) (node_at w.nodes m).up w m
step service requests seed n w (Checkpoint m version) = at_node w m (checkpoint version (service_of service seed) m)
step service requests seed n w (DropKnown m) = at_node w m (drop_known m)
step service requests seed n w (KeepFail m kept) = after w m (arm m kept (begin (node_at w.nodes m)))
step service requests seed n w (ReadVariable m client variable) = read_row w m client variable (read_at service (node_at w.nodes m) variable (get_or w.seen client 0))

-- ---- lines

-- the numbers of the messages that no line handed over, rising from this one on
abbrev pub waiting_from : ℕ → List Bool → List ℕ
waiting_from number [] = []
waiting_from number (true ∷ handed) = waiting_from (suc number) handed
waiting_from number (false ∷ handed) = number ∷ waiting_from (suc number) handed

-- a flush hands over, one after the other, what waits before it; where nothing waits it is one step that does nothing
abbrev pub flush_steps : List ℕ → List ScheduleLine
flush_steps [] = Flush ∷ []
flush_steps (number ∷ numbers) = map Deliver (number ∷ numbers)

-- the steps of a line: itself, but for a flush
abbrev pub steps_of : World → ScheduleLine → List ScheduleLine
steps_of w Flush = flush_steps (waiting_from 1 w.handed)
steps_of w line = line ∷ []

-- steps one after the other, with what they report
abbrev pub steps : Declarations → List Request → ℕ → ℕ → World → List ScheduleLine → Row
steps service requests seed n w [] = record { world = w; effects = [] }
steps service requests seed n w (line ∷ rest) = record {
  world = (steps service requests seed n (step service requests seed n w line).world rest).world;
  effects = (step service requests seed n w line).effects ++ (steps service requests seed n (step service requests seed n w line).world rest).effects;
}

-- that these messages were sent, under the numbers from this one on
abbrev pub sent_from : ℕ → List (Message Value) → List Effect
sent_from number [] = []
sent_from number (x ∷ xs) = Sent number (kind_of x.content) x.from x.to ∷ sent_from (suc number) xs

-- one more line is done; what it sent is told last
abbrev pub finished : World → Row → Row
finished w r = record {
  world = record r.world { done = w.done + 1 };
  effects = r.effects ++ sent_from (suc (length w.messages)) (drop (length w.messages) r.world.messages);
}

-- what a schedule line does, with these requests, this seed and n nodes
abbrev pub row : Declarations → List Request → ℕ → ℕ → World → ScheduleLine → Row
row service requests seed n w line = finished w (steps service requests seed n w (steps_of w line))

-- the world after lines, one after the other
abbrev pub after_lines : Declarations → List Request → ℕ → ℕ → World → List ScheduleLine → World
after_lines service requests seed n w [] = w
after_lines service requests seed n w (line ∷ rest) = after_lines service requests seed n (row service requests seed n w line).world rest

-- what lines report, one after the other
abbrev pub effects_of : Declarations → List Request → ℕ → ℕ → World → List ScheduleLine → List Effect
effects_of service requests seed n w [] = []
effects_of service requests seed n w (line ∷ rest) =
    (row service requests seed n w line).effects ++ effects_of service requests seed n (row service requests seed n w line).world rest
