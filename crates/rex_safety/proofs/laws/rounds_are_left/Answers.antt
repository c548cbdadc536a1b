use Rattle.rex_safety.proofs.Raising.{rounds_left}
use Rattle.rex_safety.proofs.laws.rounds_are_left.Goals as goal

pub returns : goal.returns
returns c = λ service requests seed n lines few l. rounds_left service requests seed n few lines l
