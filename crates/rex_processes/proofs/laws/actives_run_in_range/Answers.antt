use Rattle.rex_processes.proofs.Ranging.{actives_in_range}
use Rattle.rex_processes.proofs.laws.actives_run_in_range.Goals as goal

pub returns : goal.returns
returns c = actives_in_range
