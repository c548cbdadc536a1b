use Rattle.std.proofs.Common.{◌≡◌, length}
use Rattle.rex_cluster.specs.Same as same
use Rattle.rex_fits.proofs.causes.has_same.Given as goal

-- what is left is the same exactly where all are
abbrev pub invariant-loop-left : goal.invariant-loop-left
invariant-loop-left l = same.same_causes l.left l.right ≡ same.same_causes l.first l.second

abbrev pub decreases-loop-left : goal.decreases-loop-left
decreases-loop-left l = length l.left
