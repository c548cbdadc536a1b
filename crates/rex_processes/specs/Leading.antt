-- What a process that leads keeps by itself, and what that says of its cuts and of its lanes' turns.
use Rattle.std.specs.Prelude.{◌≡◌, ◌<◌, ◌≤◌, ℕ, true, List, length, Option, Some}
use Rattle.std.specs.List.{All}
use Rattle.rex_ballot.specs.declared.ballots.TheConstants.{INSTANCES}
use Rattle.rex_syntax.specs.declared.service.Declarations.{Declarations}
use Rattle.rex_syntax.specs.Service.{IsService}
use Rattle.rex_syntax.specs.Check.{IsChecked}
use Rattle.rex_record.specs.declared.recorder.TheConstants.{LIVE_EVENTS}
use Rattle.rex_schedule.specs.Fits.{RequestFits}
use Rattle.rex_cluster.specs.Records.{Proposal, known}
use Rattle.rex_cluster.specs.Node.{Lead}
use Rattle.rex_cluster.specs.Node.Role.{Leads}
use Rattle.rex_cluster.specs.Values.{Value, runs}
use Rattle.rex_cluster.specs.Lanes.{Here, CallHere, node_trace}
use Rattle.rex_cluster.specs.Clients.{HasClient}
use Rattle.rex_cluster.specs.Acting.{IsActing}
use Rattle.rex_safety.specs.Keeping.{AreCounts, CanCut, HasRoom}
use Rattle.rex_processes.specs.Processes.{Task, call_for}
use Rattle.rex_processes.specs.Processes.Task.{Submit, Turn}
use Rattle.rex_processes.specs.Tested.{KnownFits, FitsNext}

-- ---- what is kept

-- where a node is active, and all that it knows fits, the value that it has open fits after that
abbrev pub ActiveOpenFits : Declarations → Here → Type 0
ActiveOpenFits service x =
    (l : Lead Value) (p : Proposal Value) → x.role ≡ Leads l → l.active ≡ true → KnownFits service x → l.proposal ≡ Some p → FitsNext service x p.value

-- it stays so whatever task the process does, without a test
abbrev pub ActiveOpensStayFit : Type 0
ActiveOpensStayFit =
    (service : Declarations) (seed n m : ℕ) (task : Task) (d : CallHere) → ActiveOpenFits service d.node → ActiveOpenFits service (call_for service seed n m task d).node

-- where a node is active, and all that it knows fits, it works with a recorder
abbrev pub ActiveIsActing : Declarations → Here → Type 0
ActiveIsActing service x = (l : Lead Value) → x.role ≡ Leads l → l.active ≡ true → KnownFits service x → IsActing service (known x.log) l.proposal x.work

-- the request or the lane that a task names is there
abbrev pub TaskFits : Declarations → Task → Type 0
TaskFits service (Submit r) = RequestFits service r
TaskFits service (Turn lane clock) = lane < service.lanes
TaskFits service _ = Unit {0}

-- with a checked service, it stays so whatever task the process does that names what is there
abbrev pub ActivesStayActing : Type 0
ActivesStayActing =
    (service : Declarations) (seed n m : ℕ) (task : Task) (d : CallHere) → IsService service → IsChecked service → TaskFits service task → ActiveIsActing service d.node
    → ActiveIsActing service (call_for service seed n m task d).node

-- ---- cuts

-- all that a node knows fits, and its live events run on from there; there are not too many of either; and the clients and sequences of the events are in their ranges
pub record RunsInRange (service : Declarations) (x : Here) : Type 0 where
  pub fits : KnownFits service x
  pub few : length (known x.log) ≤ INSTANCES
  pub live_runs : runs service (node_trace x) ≡ true
  pub live_few : length x.work.live ≤ LIVE_EVENTS
  pub clients : All HasClient x.work.live

-- a node that works with a recorder is so, where all that it knows fits and isn't too much
abbrev pub ActivesRunInRange : Type 0
ActivesRunInRange =
    (service : Declarations) (x : Here) (open_one : Option (Proposal Value)) → KnownFits service x → length (known x.log) ≤ INSTANCES → IsActing service (known x.log) open_one x.work
    → RunsInRange service x

-- the delta below each cut of such a node's live events has its numbers in their ranges, and few bytes
abbrev pub CutsOfOneAreSpelled : Type 0
CutsOfOneAreSpelled =
    (service : Declarations) (x : Here) (counts : List ℕ) → IsService service → IsChecked service → RunsInRange service x → AreCounts service x counts → CanCut service x counts

-- ---- counts

-- where all that a node knows fits, and neither that nor what is live is too much, the count of each lane has room for one more event
abbrev pub CountsOfOneHaveRoom : Type 0
CountsOfOneHaveRoom =
    (service : Declarations) (x : Here) (lane : ℕ) → KnownFits service x → length (known x.log) ≤ INSTANCES → length x.work.live ≤ LIVE_EVENTS → HasRoom service x lane
