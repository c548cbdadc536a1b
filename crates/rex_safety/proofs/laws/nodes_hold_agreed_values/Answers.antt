use Rattle.rex_safety.proofs.Held.{holds_agreed}
use Rattle.rex_safety.proofs.Steps.{reached_ok}
use Rattle.rex_safety.proofs.laws.nodes_hold_agreed_values.Goals as goal

pub returns : goal.returns
returns c = λ service requests seed n lines few. holds_agreed service seed n _ (reached_ok service requests seed n few lines)
