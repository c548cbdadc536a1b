use Rattle.rex_processes.proofs.Stateless.{plain_stays}
use Rattle.rex_processes.proofs.laws.records_stay_plain.Goals as goal

pub returns : goal.returns
returns c = plain_stays
