use Rattle.rex_processes.proofs.Keeping.{acts_on}
use Rattle.rex_processes.proofs.laws.actives_stay_acting.Goals as goal

pub returns : goal.returns
returns c = λ service seed n m task d good checked fits. acts_on service good checked seed n m task fits d
