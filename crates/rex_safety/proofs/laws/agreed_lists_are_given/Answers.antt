use Rattle.rex_safety.proofs.Held.{is_given}
use Rattle.rex_safety.proofs.Steps.{reached_ok}
use Rattle.rex_safety.proofs.laws.agreed_lists_are_given.Goals as goal

pub returns : goal.returns
returns c = λ service requests seed n lines few. is_given service seed n _ (reached_ok service requests seed n few lines)
