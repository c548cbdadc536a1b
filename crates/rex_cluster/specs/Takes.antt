-- Events that an active node is handed, and what they and schedule lines do to a world, one after the other.
use Rattle.std.specs.Prelude.{ℕ, List, [], ◌∷◌, length}
use Rattle.rex_syntax.specs.declared.request.Request.{Request}
use Rattle.rex_syntax.specs.declared.service.Declarations.{Declarations}
use Rattle.rex_event.specs.declared.event.Event.{Event}
use Rattle.rex_event.specs.declared.event.Kind.{Kind}
use Rattle.rex_event.specs.declared.event.Kind.TheVariants.{Begin}
use Rattle.rex_event.specs.declared.event.TheConstants.{CLIENTS, SEQUENCES}
use Rattle.rex_delta.specs.Spelling.{IsBetween}
use Rattle.rex_schedule.specs.declared.scenario.ScheduleLine.{ScheduleLine}
use Rattle.rex_schedule.specs.Fits.{IsNode, LineFits}
use Rattle.rex_record.specs.declared.turns.Turn.{Turn}
use Rattle.rex_record.specs.Take.{taken_turn}
use Rattle.rex_record.specs.Value.{live_after}
use Rattle.rex_cluster.specs.Node.{is_active}
use Rattle.rex_cluster.specs.Lanes.{Here, CallHere, active_only, live_state}
use Rattle.rex_cluster.specs.World.{World, at_node, row}

-- ---- one event

-- what comes of an event that a node is handed
abbrev pub taken_in : Declarations → Here → Event → Turn
taken_in service x e = taken_turn service (live_state service x) x.work.queue (length x.work.live) e

-- an event that is done joins the live ones; the queue and the dice stay, and nothing is reported
abbrev pub taken : Turn → CallHere → CallHere
taken t d = record d { node = record d.node { work = record d.node.work { live = live_after d.node.work.live t } } }

abbrev pub take_event : Declarations → Event → CallHere → CallHere
take_event service e d = taken (taken_in service d.node e) d

-- an active node is handed an event, which no schedule line spells; no line is done
abbrev pub take : Declarations → World → ℕ → Event → World
take service w m e = (at_node w m (λ d. active_only (is_active d.node.role) d (take_event service e d))).world

-- ---- what happens to a world

-- a schedule line, or an event that a node is handed
pub data Doing : Type 0 where
  Does : ScheduleLine → Doing
  Takes : ℕ → Event → Doing

abbrev pub does : Declarations → List Request → ℕ → ℕ → World → Doing → World
does service requests seed n w (Does line) = (row service requests seed n w line).world
does service requests seed n w (Takes m e) = take service w m e

-- the world after doings, one after the other
abbrev pub after_doings : Declarations → List Request → ℕ → ℕ → World → List Doing → World
after_doings service requests seed n w [] = w
after_doings service requests seed n w (x ∷ rest) = after_doings service requests seed n (does service requests seed n w x) rest

-- ---- conditions

-- a request that an event begins has its client and its sequence in their ranges
abbrev pub KindBeginsInRange : Kind → Type 0
KindBeginsInRange (Begin client sequence handler arguments) = IsBetween 1 CLIENTS client × IsBetween 1 SEQUENCES sequence
KindBeginsInRange _ = Unit {0}

pub record BeginsInRange (e : Event) : Type 0 where
  pub kind : KindBeginsInRange e.kind

-- what a doing names is there
abbrev pub DoingFits : ℕ → ℕ → ℕ → Doing → Type 0
DoingFits nodes requests lanes (Does line) = LineFits nodes requests lanes line
DoingFits nodes requests lanes (Takes m e) = IsNode nodes m × BeginsInRange e
