-- The report of a scenario.
use Rattle.std.specs.Prelude.{ℕ, suc, ◌+◌, ◌≤◌, List, [], ◌∷◌, ◌++◌, length, take, is_some, if◌then◌else◌}
use Rattle.rex_ballot.specs.declared.ballots.TheConstants.{INSTANCES}
use Rattle.rex_record.specs.declared.recorder.TheConstants.{LIVE_EVENTS}
use Rattle.rex_syntax.specs.declared.request.Request.{Request}
use Rattle.rex_syntax.specs.declared.service.Declarations.{Declarations}
use Rattle.rex_report.specs.declared.effect.Effect.{Effect}
use Rattle.rex_report.specs.declared.ends.End.{End}
use Rattle.rex_report.specs.declared.ends.End.TheVariants.{Up, Down}
use Rattle.rex_report.specs.declared.ends.UpEnd.{UpEnd}
use Rattle.rex_report.specs.Rows.{row_text}
use Rattle.rex_report.specs.Ends.{end_text}
use Rattle.rex_schedule.specs.declared.scenario.Scenario.{Scenario}
use Rattle.rex_schedule.specs.declared.scenario.ScheduleLine.{ScheduleLine}
use Rattle.rex_cluster.specs.Records.{promise, known}
use Rattle.rex_cluster.specs.Node.{role_name, is_active}
use Rattle.rex_cluster.specs.Values.{trace_of, state_after}
use Rattle.rex_state.specs.Value.{StateValue}
use Rattle.rex_cluster.specs.Lanes.{Here, live_state}
use Rattle.rex_cluster.specs.World.{World, beginning, row}
use Rattle.rex_node.specs.Parts as parts
use Rattle.rex_node.specs.Parts.{NodeValue, IsNode, role_of, work_of}

-- the report lines of a schedule line
abbrev pub effects_text : Declarations → ℕ → List Effect → List ℕ
effects_text service number [] = []
effects_text service number (effect ∷ rest) = row_text service number effect ++ effects_text service number rest

-- what a node came to: how many events are live where it is active, and else how many deltas it has replayed
abbrev pub end_of : ℕ → Here → End
end_of number x =
    if x.up then Up (record {
      node = number;
      role = role_name x.role;
      promised = promise x.log;
      known = length (known x.log);
      count = if is_active x.role then length x.work.live else x.replayed;
    })
    else Down number

-- the state that it shows: the live state where it is active, and else the state that it has replayed
abbrev pub shown_state : Declarations → Here → StateValue
shown_state service x =
    if is_active x.role then live_state service x
    else state_after service (trace_of (take x.replayed (known x.log)))

-- the line of the node of this number
abbrev pub node_text : Declarations → ℕ → Here → List ℕ
node_text service number x = end_text (end_of number x) service (shown_state service x).variables (shown_state service x).semaphores

-- how many events are live at an active node; how many deltas another one has replayed
abbrev pub count_of : {K : Type 0} → NodeValue K → ℕ
count_of x = if is_active (role_of x.acceptor x.proposer (is_some x.acting)) then length (work_of x.acting).live else x.replayed

-- its line has room for how many events are live and how many values are known
pub record EndFits {K : Type 0} (x : NodeValue K) : Type 0 where
  pub live : length (work_of x.acting).live ≤ LIVE_EVENTS
  pub known : parts.count_of x ≤ INSTANCES

-- what a node that is up came to, from its parts
abbrev pub up_end_of : {K : Type 0} → NodeValue K → UpEnd
up_end_of x = record {
  node = x.id;
  role = role_name (role_of x.acceptor x.proposer (is_some x.acting));
  promised = x.acceptor.promised;
  known = parts.count_of x;
  count = count_of x;
}

-- the lines of the nodes from this number on
abbrev pub ends_text : Declarations → ℕ → List Here → List ℕ
ends_text service number [] = []
ends_text service number (x ∷ xs) = node_text service number x ++ ends_text service (suc number) xs

-- the report from a world of n nodes on
abbrev pub report_from : Declarations → List Request → ℕ → ℕ → World → List ScheduleLine → List ℕ
report_from service requests seed n w [] = ends_text service 1 w.nodes
report_from service requests seed n w (line ∷ rest) =
    effects_text service (w.done + 1) (row service requests seed n w line).effects
    ++ report_from service requests seed n (row service requests seed n w line).world rest

-- the report of a scenario
abbrev pub report_of : Declarations → Scenario → List ℕ
report_of service s = report_from service s.requests s.seed s.nodes (beginning s.nodes) s.schedule
