use Rattle.std.proofs.Common.{arith}
use Rattle.rex_group.proofs.Keeping.{found_grouped}
use Rattle.rex_group.proofs.keeper.GroupKeeper.read.Goals as goal

pub invariant_of-result : goal.invariant_of-result
invariant_of-result g c =
    found_grouped (g.K.Keeper.records c.args.keeper) c.in-Ok-new_group.group.items c.in-Ok.places.items c.len-kept.result c.in-Ok.ensures c.in-Ok-new_group.ensures (omega arith)

pub returns-clause-holds : goal.returns-clause-holds
returns-clause-holds g c = (invariant_of-result g c).holds
