use Rattle.std.proofs.Common.{◌+◌, ◌*◌}
use Rattle.rex_threads.proofs.jobs.+jobs.Given as goal

-- one job fewer at each turn, and the closure that does the others in between
abbrev pub decreases-do_all : goal.decreases-do_all
decreases-do_all g l = 2 * l.jobs.len

abbrev pub decreases-others : goal.decreases-others
decreases-others g l = 2 * l.jobs.len + 1
