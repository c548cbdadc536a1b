-- What a scenario names is there.
use Rattle.std.specs.Prelude.{◌≡◌, ◌≢◌, ℕ, ◌<◌, ◌≤◌, Bool, true, length, slice_get}
use Rattle.std.specs.List.{All}
use Rattle.rex_syntax.specs.declared.request.Request.{Request}
use Rattle.rex_syntax.specs.declared.service.Declarations.{Declarations}
use Rattle.rex_syntax.specs.declared.version.Version.TheVariants.{One}
use Rattle.rex_syntax.specs.Versions.{has_old_form}
use Rattle.rex_schedule.specs.Counts.{is_node_count, takes_so_many}
use Rattle.rex_schedule.specs.declared.scenario.Scenario.{Scenario}
use Rattle.rex_schedule.specs.declared.scenario.ScheduleLine.{ScheduleLine}
use Rattle.rex_schedule.specs.declared.scenario.ScheduleLine.TheVariants.{Elect, Submit, Lane, Cut, CutBelow, Deliver, Flush, Replay, Ask, Stop, Start, Checkpoint, DropKnown, KeepFail, ReadVariable}
use Rattle.rex_schedule.specs.declared.scenario.TheConstants.{REQUESTS, SCHEDULE_LINES}
use Rattle.rex_event.specs.declared.event.TheConstants.{CLIENTS, SEQUENCES}

-- client and sequence are in their ranges, and the handler is there and takes the arguments
pub record RequestFits (service : Declarations) (r : Request) : Type 0 where
  pub client : 0 < r.client
  pub clients : r.client ≤ CLIENTS
  pub sequence : 0 < r.sequence
  pub sequences : r.sequence ≤ SEQUENCES
  pub handler : r.handler < length service.handlers
  pub takes : takes_so_many (slice_get service.handlers r.handler) (length r.arguments) ≡ true

-- a number from 1 to that of the nodes
abbrev pub IsNode : ℕ → ℕ → Type 0
IsNode nodes n = (0 < n) × (n ≤ nodes)

-- the node, the lane and the request of a schedule line are there, limits are as many as the lanes, a message is any but 0, a node asks another one, and the client that reads is one
abbrev pub LineFits : ℕ → ℕ → ℕ → ScheduleLine → Type 0
LineFits nodes requests lanes (Elect n) = IsNode nodes n
LineFits nodes requests lanes (Submit n r) = IsNode nodes n × (r < requests)
LineFits nodes requests lanes (Lane n l) = IsNode nodes n × (l < lanes)
LineFits nodes requests lanes (Cut n) = IsNode nodes n
LineFits nodes requests lanes (CutBelow n limits) = IsNode nodes n × (length limits ≡ lanes)
LineFits nodes requests lanes (Deliver m) = 0 < m
LineFits nodes requests lanes Flush = Unit {0}
LineFits nodes requests lanes (Replay n) = IsNode nodes n
LineFits nodes requests lanes (Ask n m) = IsNode nodes n × (IsNode nodes m × (n ≢ m))
LineFits nodes requests lanes (Stop n) = IsNode nodes n
LineFits nodes requests lanes (Start n) = IsNode nodes n
LineFits nodes requests lanes (Checkpoint n version) = IsNode nodes n
LineFits nodes requests lanes (DropKnown n) = IsNode nodes n
LineFits nodes requests lanes (KeepFail n kept) = IsNode nodes n
LineFits nodes requests lanes (ReadVariable n client variable) = IsNode nodes n × ((0 < client) × (client ≤ CLIENTS))

-- a checkpoint is in a version that the service's states have, where these have the old one or don't
abbrev pub FormFits : Bool → ScheduleLine → Type 0
FormFits old (Checkpoint n One) = old ≡ true
FormFits old _ = Unit {0}

-- a variable that is read is there
abbrev pub VariableFits : ℕ → ScheduleLine → Type 0
VariableFits variables (ReadVariable n client variable) = variable < variables
VariableFits variables _ = Unit {0}

-- what a scenario names is there in its service
pub record ScenarioFits (service : Declarations) (s : Scenario) : Type 0 where
  pub nodes : is_node_count s.nodes ≡ true
  pub few_requests : length s.requests ≤ REQUESTS
  pub few_lines : length s.schedule ≤ SCHEDULE_LINES
  pub requests : All (RequestFits service) s.requests
  pub schedule : All (LineFits s.nodes (length s.requests) service.lanes) s.schedule
  pub forms : All (FormFits (has_old_form service)) s.schedule
  pub variables : All (VariableFits (length service.variables)) s.schedule
