use Rattle.rex_group.specs.Places.{AreFound}
use Rattle.rex_group.proofs.reading.places_of.Given as goal

-- the records before this one hold what stands at the places so far
abbrev pub invariant-loop-index : goal.invariant-loop-index
invariant-loop-index g l = AreFound (g.K.Keeper.records l.keeper) l.index l.places.items
