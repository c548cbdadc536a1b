-- A leader and its followers at rest.
use Rattle.std.specs.Prelude.{◌≡◌, ℕ, ◌<◌, ◌≤◌, true, List, [], length, replicate, None}
use Rattle.rex_cluster.specs.Records.{known, promise}
use Rattle.rex_cluster.specs.Node.{Lead}
use Rattle.rex_cluster.specs.Node.Role.{Follower, Leads}
use Rattle.rex_cluster.specs.Values.{Value}
use Rattle.rex_cluster.specs.Lanes.{Here}
use Rattle.rex_cluster.specs.World.{World, node_at}

-- ---- nodes

-- the node's role is that of an active one, with ballot 17 and no open proposal
pub record IsLeading (x : Here) : Type 0 where
  pub lead : Lead Value
  pub role : x.role ≡ Leads lead
  pub ballot : lead.ballot ≡ 17
  pub active : lead.active ≡ true
  pub no_proposal : lead.proposal ≡ None

-- a leader at rest: it is up, leads, knows just these values, has replayed them, and has no live event
pub record IsLeader (values : List Value) (x : Here) : Type 0 where
  pub up : x.up ≡ true
  pub leads : IsLeading x
  pub knows : known x.log ≡ values
  pub replayed : x.replayed ≡ length values
  pub no_live : x.work.live ≡ []

-- a follower at rest: it is up, follows, promised ballot 17, and knows just these values
pub record IsFollower (values : List Value) (x : Here) : Type 0 where
  pub up : x.up ≡ true
  pub role : x.role ≡ Follower
  pub promised : promise x.log ≡ 17
  pub knows : known x.log ≡ values

-- ---- worlds

-- of n nodes node 1 leads and the others follow, each knows just these values, and each message was handed over
pub record IsSettled (n : ℕ) (values : List Value) (w : World) : Type 0 where
  pub many : length w.nodes ≡ n
  pub leader : IsLeader values (node_at w.nodes 1)
  pub others : (m : ℕ) → 1 < m → m ≤ n → IsFollower values (node_at w.nodes m)
  pub handed : w.handed ≡ replicate (length w.messages) true
