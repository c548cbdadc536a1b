use Rattle.rex_processes.proofs.Calling.{plain_holds}
use Rattle.rex_processes.proofs.laws.plain_records_hold_all.Goals as goal

pub returns : goal.returns
returns c = plain_holds
