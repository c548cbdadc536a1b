use Rattle.rex_world.proofs.Common.{◌≡◌, drop, learned}
use Rattle.rex_world.proofs.agreed.learn_from.Given as goal

-- the other records lead from here to where all of them lead from the first values
abbrev pub invariant-loop-index : goal.invariant-loop-index
invariant-loop-index g l = learned l.agreed (drop l.index l.keeper.records) ≡ learned l.initial.agreed (drop l.count l.keeper.records)
