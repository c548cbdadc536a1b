use Rattle.std.proofs.Common.{◌≡◌, ◌++◌, length}
use Rattle.rex_report.specs.Pieces.{spaced}
use Rattle.rex_report.specs.Ends.{semaphore_words}
use Rattle.rex_report.proofs.ends.push_semaphores.Given as goal

abbrev pub invariant-loop-names : goal.invariant-loop-names
invariant-loop-names l =
    l.out.items ++ spaced (semaphore_words l.names l.rest) ≡ l.initial.out.items ++ spaced (semaphore_words l.semaphores l.values)

abbrev pub decreases-loop-names : goal.decreases-loop-names
decreases-loop-names l = length l.names
