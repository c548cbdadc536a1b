use Rattle.std.proofs.Common.{◌<◌}
use Rattle.rex_syntax.specs.Held.{ForksBy}
use Rattle.rex_syntax.proofs.held.fork_of.Given as goal

abbrev pub invariant-loop-from : goal.invariant-loop-from
invariant-loop-from l = (l.from < l.place) × ForksBy l.lines l.place l.from

abbrev pub decreases-loop-from : goal.decreases-loop-from
decreases-loop-from l = l.from
