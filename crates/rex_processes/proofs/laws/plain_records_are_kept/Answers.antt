use Rattle.rex_processes.proofs.Stateless.{plain_starts}
use Rattle.rex_processes.proofs.laws.plain_records_are_kept.Goals as goal

pub returns : goal.returns
returns c = plain_starts
