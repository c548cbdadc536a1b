use Rattle.rex_safety.proofs.Raising.{rounds_few}
use Rattle.rex_safety.proofs.laws.rounds_stay_few.Goals as goal

pub returns : goal.returns
returns c = λ service requests seed n lines few. rounds_few service requests seed n few lines
