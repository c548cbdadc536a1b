-- A node without records that asks to lead.
use Rattle.std.proofs.Common.{ℕ, List, [], None, refl, sym, subst}
use Rattle.rex_syntax.specs.declared.service.Declarations.{Declarations}
use Rattle.rex_traits.specs.declared.mem_keeper.Fate.{Fate}
use Rattle.rex_traits.specs.Keeping.{KeeperValue, armed_to, unused_keeper}
use Rattle.rex_cluster.specs.Node.{down_node}
use Rattle.rex_cluster.specs.Calls.{begin, elect, restart}
use Rattle.rex_cluster.specs.Lanes.{Here}
use Rattle.rex_cluster.specs.Values.{service_of}
use Rattle.rex_node.specs.Parts.{NodeValue, here_of}
use Rattle.rex_node.specs.Restarting.{CameUp}
use Rattle.rex_node.specs.Going.{RunsOn}

abbrev pub records_of : KeeperValue → List (List ℕ)
records_of k = k.records

-- a node without records that was started
abbrev fresh : Here
fresh = (restart 1 (begin (down_node [] None))).node

fresh_runs : (service : Declarations) (seed : ℕ) → RunsOn service (elect 3 (service_of service seed) 1) (begin fresh)
fresh_runs service seed = refl

-- what it knows after its election runs: nothing
pub elected_runs : (service : Declarations) (fate : Fate) (x : NodeValue KeeperValue) → CameUp records_of service [] 1 3 0 (armed_to fate unused_keeper) x → RunsOn service (elect x.nodes (service_of service x.seed) x.id) (begin (here_of records_of service [] x))
elected_runs service fate x h =
    subst (λ (n : ℕ). RunsOn service (elect n (service_of service x.seed) x.id) (begin (here_of records_of service [] x))) (sym h.nodes_are)
    (subst (λ (m : ℕ). RunsOn service (elect 3 (service_of service x.seed) m) (begin (here_of records_of service [] x))) (sym h.id_is)
    (subst (λ (y : Here). RunsOn service (elect 3 (service_of service x.seed) 1) (begin y)) (sym h.node) (fresh_runs service x.seed)))
