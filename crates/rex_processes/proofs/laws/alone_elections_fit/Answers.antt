use Rattle.rex_processes.proofs.Testing.{alone_fits}
use Rattle.rex_processes.proofs.laws.alone_elections_fit.Goals as goal

pub returns : goal.returns
returns c = alone_fits
