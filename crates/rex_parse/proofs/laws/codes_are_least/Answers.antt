use Rattle.rex_parse.proofs.FitsLeast.{lines_get_the_least, ends_get_the_least}
use Rattle.rex_parse.proofs.Alone.{alone}
use Rattle.rex_parse.proofs.laws.codes_are_least.Goals as goal

pub returns-clause-lines : goal.returns-clause-lines
returns-clause-lines c = lines_get_the_least

pub returns-clause-ends : goal.returns-clause-ends
returns-clause-ends c = ends_get_the_least

pub returns-clause-alone : goal.returns-clause-alone
returns-clause-alone c = alone
