-- What a world does on the way.
use Rattle.std.specs.Prelude.{◌≡◌, List, Some}
use Rattle.rex_syntax.specs.declared.service.Declarations.{Declarations}
use Rattle.rex_event.specs.declared.event.Event.{Event}
use Rattle.rex_state.specs.Value.{StateValue}
use Rattle.rex_state.specs.Machine.{run}
use Rattle.rex_state.specs.Counts.{AreCounted}
use Rattle.rex_cluster.specs.Lanes.{live_state}
use Rattle.rex_cluster.specs.World.{node_at}
use Rattle.rex_cluster.specs.Takes.{Doing, after_doings}
use Rattle.rex_safety.specs.Doings.{world_after_doings}
use Rattle.rex_steady.specs.Schedule.{election}
use Rattle.rex_world.specs.declared.world.World.{World}
use Rattle.rex_world.specs.World.{nodes_of, world_of}
use Rattle.rex_world.specs.Kept.{IsRunning, IsSame}

-- a world did these doings, one after the other, and runs on, over the same nodes, requests and seed
pub record Did {S : Type 0} (service : Declarations) (before after : World S) (doings : List Doing) : Type 0 where
  pub world : world_of service after ≡ after_doings service before.requests before.seed (nodes_of before) (world_of service before) doings
  pub running : IsRunning service after
  pub same : IsSame before after

-- node 1 of a world was elected, and nothing else was done
pub record IsElected {S : Type 0} (service : Declarations) (w : World S) : Type 0 where
  pub world : world_of service w ≡ world_after_doings service w.requests w.seed (nodes_of w) election

-- events lead on from the state that node 1 of a world executes to this one, and their indices leave room to count one more
pub record IsNext {S : Type 0} (service : Declarations) (w : World S) (es : List Event) (s : StateValue) : Type 0 where
  pub runs : run service (live_state service (node_at (world_of service w).nodes 1)) es ≡ Some s
  pub counted : AreCounted es
