use Rattle.rex_group.proofs.Places.{found_more}
use Rattle.rex_group.proofs.reading.places_of.Goals as goal

pub loop-index-preserved : goal.loop-index-preserved
loop-index-preserved g c =
    rw (c.in_ok-extend_from_slice.ensures.items, c.deref.ensures.value) (found_more (g.K.Keeper.records c.args.keeper.now) c.loop-index.index c.get.result.now c.loop-index.places.items c.in_ok-found.found.items c.loop-index.invariant (rw (← c.len-index-end.ensures) c.loop-index-test.true) c.get.ensures c.in_ok-found.ensures)
