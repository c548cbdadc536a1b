use Rattle.rex_world.proofs.Common.{◌<◌, length, get_or, ap, arith, ◌∙◌}
use Rattle.rex_world.proofs.Endings.{ends_next, member_at}
use Rattle.rex_world.proofs.ends.push_nodes.Goals as goal

pub push_node-requires : goal.push_node-requires
push_node-requires g c =
    let inside : c.loop-node.node-index < length c.args.world.now.nodes.items = omega (arith, c.loop-node-test.true, ap (λ xs. length xs) c.deref-node-items.ensures.value) in
    (member_at _ _
    c.requires.members inside (c.node-item.is ∙ ap (λ xs. get_or xs c.loop-node.node-index c.node-item.result) c.deref-node-items.ensures.value)).node

pub loop-node-preserved : goal.loop-node-preserved
loop-node-preserved g c =
    let inside : c.loop-node.node-index < length c.args.world.now.nodes.items = omega (arith, c.loop-node-test.true, ap (λ xs. length xs) c.deref-node-items.ensures.value) in
    let is = c.node-item.is ∙ ap (λ xs. get_or xs c.loop-node.node-index c.node-item.result) c.deref-node-items.ensures.value in
    record {
      lines = ends_next _ _ _ _ _
          inside is (member_at _ _ c.requires.members inside is).id
          c.loop-node.invariant.lines c.in_ok-push_node.ensures;
    }
