use Rattle.rex_processes.proofs.Testing.{next_fits_where}
use Rattle.rex_processes.proofs.laws.next_fits_where_it_runs.Goals as goal

pub returns : goal.returns
returns c = next_fits_where
