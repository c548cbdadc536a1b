use Rattle.rex_scenario.proofs.FitsLeast.{lines_get_the_least, ends_get_the_least}
use Rattle.rex_scenario.proofs.laws.codes_are_least.Goals as goal

pub returns-clause-lines : goal.returns-clause-lines
returns-clause-lines c = lines_get_the_least

pub returns-clause-ends : goal.returns-clause-ends
returns-clause-ends c = ends_get_the_least
