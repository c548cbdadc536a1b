-- Released replies, and the leaders in whose traces they stand.
use Rattle.std.specs.Prelude.{◌≡◌, ℕ, ◌+◌, ◌<◌, ◌≤◌, ◌⊎◌, true, ℤ, List, [], ◌∷◌, ◌++◌, Option, Some, None}
use Rattle.rex_syntax.specs.declared.request.Request.{Request}
use Rattle.rex_syntax.specs.declared.service.Declarations.{Declarations}
use Rattle.rex_report.specs.declared.effect.Effect.{Effect}
use Rattle.rex_report.specs.declared.effect.Effect.TheVariants.{Released}
use Rattle.rex_schedule.specs.declared.scenario.ScheduleLine.{ScheduleLine}
use Rattle.rex_schedule.specs.declared.scenario.ScheduleLine.TheVariants.{Elect, Submit, Lane, Cut, CutBelow, Deliver, Flush, Replay, Ask, Stop, Start, Checkpoint, DropKnown, KeepFail, ReadVariable}
use Rattle.rex_cluster.specs.Node.{Message, Lead, own_ballot}
use Rattle.rex_cluster.specs.Node.Role.{Leads}
use Rattle.rex_cluster.specs.Values.{Value}
use Rattle.rex_cluster.specs.World.{World, node_at, message_at, step, steps_of, row}

-- the effect is among these
abbrev pub IsAmong : Effect → List Effect → Type 0
IsAmong effect [] = ⊥
IsAmong effect (first ∷ rest) = (first ≡ effect) ⊎ IsAmong effect rest

-- ---- moments of a run

-- to whom a message goes; no node where there is none
abbrev pub receiver_of : Option (Message Value) → ℕ
receiver_of None = 0
receiver_of (Some x) = x.to

-- the node at which a step happens; no node where there is none
abbrev pub node_in : World → ScheduleLine → ℕ
node_in w (Elect m) = m
node_in w (Submit m r) = m
node_in w (Lane m lane) = m
node_in w (Cut m) = m
node_in w (CutBelow m limits) = m
node_in w (Deliver number) = receiver_of (message_at w.messages number)
node_in w Flush = 0
node_in w (Replay m) = m
node_in w (Ask m other) = m
node_in w (Stop m) = m
node_in w (Start m) = m
node_in w (Checkpoint m version) = m
node_in w (DropKnown m) = m
node_in w (KeepFail m kept) = m
node_in w (ReadVariable m client variable) = m

-- a step of a line: the line's number, the node at which it happened, the world that it left, and what it reported
pub record Moment : Type 0 where
  pub line : ℕ
  pub node : ℕ
  pub world : World
  pub effects : List Effect

-- the moments of steps, one after the other
abbrev pub step_moments : Declarations → List Request → ℕ → ℕ → ℕ → World → List ScheduleLine → List Moment
step_moments service requests seed n number w [] = []
step_moments service requests seed n number w (x ∷ rest) =
    (record { line = number; node = node_in w x; world = (step service requests seed n w x).world; effects = (step service requests seed n w x).effects })
    ∷ step_moments service requests seed n number (step service requests seed n w x).world rest

-- the moments of lines: the deliveries of a flush one by one, any other line one
abbrev pub moments : Declarations → List Request → ℕ → ℕ → World → List ScheduleLine → List Moment
moments service requests seed n w [] = []
moments service requests seed n w (line ∷ rest) =
    step_moments service requests seed n (w.done + 1) w (steps_of w line) ++ moments service requests seed n (row service requests seed n w line).world rest

-- ---- releases and leaders

-- a reply was released at this moment, by a leader of this ballot
pub record IsReleased (at : Moment) (ballot client sequence : ℕ) (value : ℤ) : Type 0 where
  pub among : IsAmong (Released client sequence value) at.effects
  pub leader : own_ballot (node_at at.world.nodes at.node).role ≡ ballot

-- the node leads with this ballot: it is active
pub record IsLeader (w : World) (m ballot : ℕ) : Type 0 where
  pub lead : Lead Value
  pub role : (node_at w.nodes m).role ≡ Leads lead
  pub active : lead.active ≡ true
  pub ballot_is : lead.ballot ≡ ballot

-- a leader is later than a release: its ballot is greater, at whatever moment, or the same and the moment isn't before the release
abbrev pub IsLater : ℕ → ℕ → ℕ → ℕ → Type 0
IsLater released_at released_by moment ballot = (released_by < ballot) ⊎ ((released_by ≡ ballot) × (released_at ≤ moment))
