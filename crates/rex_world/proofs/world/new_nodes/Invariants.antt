use Rattle.rex_world.proofs.Common.{◌≡◌, ◌+◌, length, All, into_iter_items, value_by, IsFresh, AreNew}
use Rattle.std.specs.Vec.Iter.{into_iter_len}
use Rattle.rex_world.proofs.world.new_nodes.Given as goal

-- the nodes so far are new, and the keepers that are left, one for each of the others, are fresh
abbrev pub invariant-loop-keeper : goal.invariant-loop-keeper
invariant-loop-keeper g l = record {
  new : AreNew l.svc l.seed l.nodes l.number l.made.items;
  left : l.number + length (into_iter_items l.keeper-iterator) ≡ l.nodes;
  counted : into_iter_len l.keeper-iterator ≡ length (into_iter_items l.keeper-iterator);
  fresh : All (IsFresh (value_by g.S.Keeper.records g.S.Keeper.faults g.S.Store.armed g.S.Store.broken g.S.Store.as_armed)) (into_iter_items l.keeper-iterator);
}
