use Rattle.rex_world.proofs.Common.{◌≡◌, ◌+◌, ◌∷◌, length, ap, arith, subst, sym, ◌∙◌, All, into_iter_items, All-head, value_by, IsFresh, AreNew}
use Rattle.std.proofs.lemmas.List.Elements.{All-rest}
use Rattle.rex_world.proofs.Beginning.{new_next, none_new}
use Rattle.rex_world.proofs.world.new_nodes.Goals as goal

pub loop-keeper-init : goal.loop-keeper-init
loop-keeper-init g c =
    let e = c.into_iter-keeper-iterator.ensures.into_iter_gives.0 in
    record {
      new = none_new c.new-made.ensures.items;
      left = omega (arith, ap length e, c.requires.keepers.many);
      counted = c.into_iter-keeper-iterator.ensures.into_iter_gives.1 ∙ c.args.keepers.ok.0 ∙ sym (ap length e);
      fresh = subst (All (IsFresh (value_by g.S.Keeper.records g.S.Keeper.faults g.S.Store.armed g.S.Store.broken g.S.Store.as_armed))) (sym e) c.requires.keepers.fresh;
    }

pub new_node-requires-clause-fresh : goal.new_node-requires-clause-fresh
new_node-requires-clause-fresh g c =
    All-head (IsFresh (value_by g.S.Keeper.records g.S.Keeper.faults g.S.Store.armed g.S.Store.broken g.S.Store.as_armed)) c.in-Some.keeper _ (subst (All (IsFresh (value_by g.S.Keeper.records g.S.Keeper.faults g.S.Store.armed g.S.Store.broken g.S.Store.as_armed))) c.in-Some.ensures.steps.0 c.loop-keeper.invariant.fresh)

pub loop-keeper-preserved : goal.loop-keeper-preserved
loop-keeper-preserved g c =
    let at = c.loop-keeper in
    let steps : into_iter_items at.keeper-iterator ≡ c.in-Some.keeper ∷ into_iter_items c.next.new.self = c.in-Some.ensures.steps.0 in
    let longer = ap length steps in
    record {
      new = subst (λ ss. AreNew c.args.svc.now c.args.seed c.args.nodes (at.number + 1) ss) (sym c.in_ok-push.ensures.items)
          (new_next at.invariant.new c.in_ok-node.ensures.here c.in_ok-node.ensures.member c.in_ok-node.ensures.within);
      left = omega (arith, longer, at.invariant.left);
      counted = omega (arith, longer, at.invariant.counted, c.in-Some.ensures.steps.1);
      fresh = All-rest (IsFresh (value_by g.S.Keeper.records g.S.Keeper.faults g.S.Store.armed g.S.Store.broken g.S.Store.as_armed)) c.in-Some.keeper (into_iter_items c.next.new.self) (into_iter_items at.keeper-iterator) steps at.invariant.fresh;
    }
