use Rattle.rex_log.proofs.Saying.{records_say}
use Rattle.rex_log.proofs.laws.records_say_the_same.Goals as goal

pub returns : goal.returns
returns c = records_say
