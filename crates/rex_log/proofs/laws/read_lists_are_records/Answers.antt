use Rattle.rex_log.proofs.Found.{found}
use Rattle.rex_log.proofs.laws.read_lists_are_records.Goals as goal

pub returns : goal.returns
returns c = found
