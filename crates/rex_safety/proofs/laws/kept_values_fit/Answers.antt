use Rattle.rex_safety.proofs.Keeps.{kept_right}
use Rattle.rex_safety.proofs.laws.kept_values_fit.Goals as goal

pub returns : goal.returns
returns c = λ service seed n w good checked kept. kept_right service seed n w good checked kept
