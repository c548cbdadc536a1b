use Rattle.rex_safety.proofs.Held.{transfers_right}
use Rattle.rex_safety.proofs.Steps.{reached_ok}
use Rattle.rex_safety.proofs.laws.transfers_stay_right.Goals as goal

pub returns : goal.returns
returns c = λ service requests seed n lines few. transfers_right service seed n _ (reached_ok service requests seed n few lines)
