-- What the nodes of a world agreed on.
use Rattle.std.specs.Prelude.{ℕ, zero, suc, List, [], ◌∷◌, length, take, max, nat_lt, Option, Some, None, if◌then◌else◌}
use Rattle.rex_syntax.specs.declared.request.Request.{Request}
use Rattle.rex_syntax.specs.declared.service.Declarations.{Declarations}
use Rattle.rex_event.specs.declared.event.Event.{Event}
use Rattle.rex_schedule.specs.declared.scenario.ScheduleLine.{ScheduleLine}
use Rattle.rex_cluster.specs.Records.{Rec, known, given_in, most_in}
use Rattle.rex_cluster.specs.Records.Rec.{Promised, Accepted, Known, Checkpoint, Dropped, Transferred}
use Rattle.rex_cluster.specs.Values.{Value, trace_of}
use Rattle.rex_cluster.specs.Lanes.{Here}
use Rattle.rex_cluster.specs.World.{World, logs, beginning, after_lines}

-- the world of n nodes after these lines
abbrev pub world_after : Declarations → List Request → ℕ → ℕ → List ScheduleLine → World
world_after service requests seed n lines = after_lines service requests seed n (beginning n) lines

-- what a node knows, also while it is down
abbrev pub known_at : World → ℕ → List Value
known_at w m = known (logs w m)

-- the longer of two lists, in a tie the first
abbrev pub longer_of : List Value → List Value → List Value
longer_of xs ys = if nat_lt (length xs) (length ys) then ys else xs

abbrev pub longest : List Here → List Value
longest [] = []
longest (x ∷ xs) = longer_of (known x.log) (longest xs)

-- the agreed list: the longest of what nodes know
abbrev pub agreed : World → List Value
agreed w = longest w.nodes

-- the value that a record of any node gives an instance, if one does: that of the first such node
abbrev pub or_else : Option Value → Option Value → Option Value
or_else None later = later
or_else (Some v) later = Some v

abbrev pub given_by : List Here → ℕ → Option Value
given_by [] i = None
given_by (x ∷ xs) i = or_else (given_in i x.log) (given_by xs i)

-- the greatest instance to which a record of any node gives a value
abbrev pub most_given : List Here → ℕ
most_given [] = 0
most_given (x ∷ xs) = max (most_in x.log) (most_given xs)

-- what is given, and what follows; nothing follows where nothing is given
abbrev pub going_on : Option Value → List Value → List Value
going_on None rest = []
going_on (Some v) rest = v ∷ rest

-- the values that records give to an instance and the next ones, up to the first to which none gives one; of at most so many instances
abbrev pub given_from : ℕ → List Here → ℕ → List Value
given_from zero nodes i = []
given_from (suc most) nodes i = going_on (given_by nodes i) (given_from most nodes (suc i))

-- those of instances 1, 2 and so on
abbrev pub given : World → List Value
given w = given_from (most_given w.nodes) w.nodes 1

-- the trace of the first k agreed values
abbrev pub trace_at : World → ℕ → List Event
trace_at w k = trace_of (take k (agreed w))

-- the state at a node's base, that of its last checkpoint or the one that it took over last, if there is one
abbrev pub base_state : {V S : Type 0} → List (Rec V S) → Option S
base_state [] = None
base_state (Promised b ∷ log) = base_state log
base_state (Accepted b i v ∷ log) = base_state log
base_state (Known i v ∷ log) = base_state log
base_state (Checkpoint version k s ∷ log) = Some s
base_state (Dropped k ∷ log) = base_state log
base_state (Transferred values s ∷ log) = Some s
