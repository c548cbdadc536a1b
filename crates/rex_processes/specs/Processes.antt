-- The processes of a cluster, each of which has one node: what happens to them, and what they come to.
use Rattle.std.specs.Prelude.{ℕ, Bool, List, [], ◌∷◌, Some, None}
use Rattle.rex_syntax.specs.declared.request.Request.{Request}
use Rattle.rex_syntax.specs.declared.service.Declarations.{Declarations}
use Rattle.rex_syntax.specs.declared.version.Version.{Version}
use Rattle.rex_schedule.specs.Fits.{RequestFits}
use Rattle.rex_cluster.specs.Node.{Message, down_node, is_active}
use Rattle.rex_cluster.specs.Node.Failure.{After}
use Rattle.rex_cluster.specs.Invariant.{IsIn}
use Rattle.rex_cluster.specs.Values.{Value, service_of}
use Rattle.rex_cluster.specs.Calls.{elect, receive, ask, replay, checkpoint, drop_known}
use Rattle.rex_cluster.specs.Lanes.{CallHere, active_only, submit_request, lane_turn, cut, no_limits}
use Rattle.rex_cluster.specs.World.{World, Row, beginning, node_at, at_node, start_if}
use Rattle.rex_cluster.specs.Releases.{Moment}

-- ---- one process

-- what a process may be told to do: to ask to lead; to take a client's request; to give a lane its turn, while the clock reads so much; to cut all that is live; to hear a message; to ask another process for what it doesn't know; to replay; to write its state down; to forget the values before that state
pub data Task : Type 0 where
  Elect : Task
  Submit : Request → Task
  Turn : ℕ → ℕ → Task
  Cut : Task
  Hear : Message Value → Task
  Ask : ℕ → Task
  Replay : Task
  Save : Version → Task
  Forget : Task

-- the call by which its node does the task
abbrev pub call_for : Declarations → ℕ → ℕ → ℕ → Task → CallHere → CallHere
call_for service seed n m Elect d = elect n (service_of service seed) m d
call_for service seed n m (Submit r) d = active_only (is_active d.node.role) d (submit_request service (Some r) d)
call_for service seed n m (Turn lane clock) d = active_only (is_active d.node.role) d (lane_turn service clock lane d)
call_for service seed n m Cut d = cut service seed n m (no_limits service d.node) d
call_for service seed n m (Hear x) d = receive n (service_of service seed) m x.from x.content d
call_for service seed n m (Ask other) d = ask m other d
call_for service seed n m Replay d = replay m d
call_for service seed n m (Save version) d = checkpoint version (service_of service seed) m d
call_for service seed n m Forget d = drop_known m d

-- what may happen to a process: it does a task; it dies while it does one, in the append that comes after so many, whose record is kept or lost, or at the end where fewer come; it dies while it does nothing; it comes up again with its records
pub data Happening : Type 0 where
  Does : Task → Happening
  DiesDoing : ℕ → Bool → Task → Happening
  Dies : Happening
  ComesUp : Happening

-- the append that comes after so many will fail, and its record be kept or lost
abbrev pub armed_after : ℕ → Bool → CallHere → CallHere
armed_after before kept d = record d { node = record d.node { armed = Some (After before kept) } }

-- of a process that died its records are left, and what it sent; what it was to report is lost
abbrev pub dead : CallHere → CallHere
dead d = record { node = down_node d.node.log None; sends = d.sends; effects = [] }

-- ---- all processes

-- the task that a process does, or dies doing, is of this kind
abbrev pub OfTask : (Task → Type 0) → Happening → Type 0
OfTask P (Does task) = P task
OfTask P (DiesDoing before kept task) = P task
OfTask P _ = Unit {0}

-- what all processes come to where this happens to one of them, and what that one reports
abbrev pub happens : Declarations → ℕ → ℕ → World → ℕ → Happening → Row
happens service seed n w m (Does task) = at_node w m (call_for service seed n m task)
happens service seed n w m (DiesDoing before kept task) = at_node w m (λ d. dead (call_for service seed n m task (armed_after before kept d)))
happens service seed n w m Dies = at_node w m dead
happens service seed n w m ComesUp = start_if (service_of service seed) (node_at w.nodes m).up w m

-- what they come to where one thing happens after another, each to the process of this number
abbrev pub after_happenings : Declarations → ℕ → ℕ → World → List (ℕ × Happening) → World
after_happenings service seed n w [] = w
after_happenings service seed n w (x ∷ rest) = after_happenings service seed n (happens service seed n w x.0 x.1).world rest

-- what n processes come to that begin without records
abbrev pub processes_after : Declarations → ℕ → ℕ → List (ℕ × Happening) → World
processes_after service seed n xs = after_happenings service seed n (beginning n) xs

-- each thing that happens is a moment
abbrev pub moments_of_happenings : Declarations → ℕ → ℕ → World → List (ℕ × Happening) → List Moment
moments_of_happenings service seed n w [] = []
moments_of_happenings service seed n w (x ∷ rest) =
    (record { line = 0; node = x.0; world = (happens service seed n w x.0 x.1).world; effects = (happens service seed n w x.0 x.1).effects })
    ∷ moments_of_happenings service seed n (happens service seed n w x.0 x.1).world rest

-- ---- what is asked of those who call them

-- a message that is heard was sent by one of them before, to whomever, and wasn't altered; a request names what is there
abbrev pub TaskIsHonest : Declarations → World → Task → Type 0
TaskIsHonest service w (Hear x) = IsIn x w.messages
TaskIsHonest service w (Submit r) = RequestFits service r
TaskIsHonest service w _ = Unit {0}

-- so it is of what a process does, or dies doing
abbrev pub IsHonest : Declarations → World → Happening → Type 0
IsHonest service w x = OfTask (TaskIsHonest service w) x

-- so it is each time that something happens
abbrev pub AreHonest : Declarations → ℕ → ℕ → World → List (ℕ × Happening) → Type 0
AreHonest service seed n w [] = Unit {0}
AreHonest service seed n w (x ∷ rest) = IsHonest service w x.1 × AreHonest service seed n (happens service seed n w x.0 x.1).world rest
