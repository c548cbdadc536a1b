use Rattle.rex_safety.proofs.Caused.{agreed_least}
use Rattle.rex_safety.proofs.laws.agreed_causes_are_least.Goals as goal

pub returns : goal.returns
returns c = λ service requests seed n lines few good checked. agreed_least service requests seed n lines few good checked
