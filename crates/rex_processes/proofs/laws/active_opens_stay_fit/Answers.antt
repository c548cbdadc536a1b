use Rattle.rex_processes.proofs.Keeping.{opens_stay}
use Rattle.rex_processes.proofs.laws.active_opens_stay_fit.Goals as goal

pub returns : goal.returns
returns c = opens_stay
