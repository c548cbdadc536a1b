use Rattle.rex_node.proofs.Common.{◌≡◌, take, limits_between}
use Rattle.rex_node.proofs.bounds.limits_between.Given as goal

abbrev pub invariant-loop-lane : goal.invariant-loop-lane
invariant-loop-lane l = l.counts.items ≡ limits_between (take l.lane l.firsts) (take l.lane l.lasts) (take l.lane l.limits)
