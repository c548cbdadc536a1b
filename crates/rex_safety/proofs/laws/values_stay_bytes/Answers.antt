use Rattle.rex_safety.proofs.Nexts.{values_bytes}
use Rattle.rex_safety.proofs.Steps.{reached_ok}
use Rattle.rex_safety.proofs.laws.values_stay_bytes.Goals as goal

pub returns : goal.returns
returns c = λ service requests seed n lines few. values_bytes service seed n _ (reached_ok service requests seed n few lines)
