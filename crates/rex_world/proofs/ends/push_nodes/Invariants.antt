use Rattle.rex_world.proofs.Common.{◌≡◌, ◌++◌, take, ends_text, heres}
use Rattle.rex_world.proofs.ends.push_nodes.Given as goal

abbrev pub invariant-loop-node : goal.invariant-loop-node
invariant-loop-node g l = record {
  lines : l.out.items ≡ l.initial.out.items ++ ends_text l.svc 1 (heres l.svc l.world.agreed (take l.node-index l.world.nodes.items));
}
