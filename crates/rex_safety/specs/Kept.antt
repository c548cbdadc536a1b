-- What every step of a cluster keeps.
use Rattle.std.specs.Prelude.{◌≡◌, ℕ, true, length}
use Rattle.rex_syntax.specs.declared.service.Declarations.{Declarations}
use Rattle.rex_state.specs.Value.{StateValue}
use Rattle.rex_cluster.specs.Quorum.{IsNode}
use Rattle.rex_cluster.specs.Node.{Service, Lead, Role}
use Rattle.rex_cluster.specs.Node.Role.{Leads}
use Rattle.rex_cluster.specs.Values.{Value, service_of}
use Rattle.rex_cluster.specs.World.{World, node_at, logs}
use Rattle.rex_cluster.specs.Agreed.{known_at}
use Rattle.rex_cluster.specs.Invariant.{IsReplayed, IsCluster}
use Rattle.rex_cluster.specs.Acting.{IsActing}
use Rattle.rex_safety.specs.Laws.{NumbersFit}

-- the role of each node
abbrev pub roles : World → ℕ → Role Value
roles w q = (node_at w.nodes q).role

-- there are n nodes, in which Paxos is kept, and each of which replayed its base or more and no more than it knows
pub record IsWorld (n : ℕ) (sv : Service Value StateValue) (w : World) : Type 0 where
  pub many : length w.nodes ≡ n
  pub cluster : IsCluster n sv (logs w) (roles w) w.messages
  pub nodes : (q : ℕ) → IsNode n q → IsReplayed (node_at w.nodes q)

-- it is so, each active node works with a recorder, numbers are in their ranges, and each message was handed over or not
pub record IsKept (service : Declarations) (seed n : ℕ) (w : World) : Type 0 where
  pub world : IsWorld n (service_of service seed) w
  pub acting : (m : ℕ) (l : Lead Value) → roles w m ≡ Leads l → l.active ≡ true → IsActing service (known_at w m) l.proposal (node_at w.nodes m).work
  pub numbers : NumbersFit n w
  pub handed : length w.handed ≡ length w.messages
