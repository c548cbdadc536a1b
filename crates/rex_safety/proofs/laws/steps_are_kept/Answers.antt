use Rattle.rex_safety.proofs.Keeps.{step_kept}
use Rattle.rex_safety.proofs.laws.steps_are_kept.Goals as goal

pub returns : goal.returns
returns c = λ service requests seed n w line few good checked fit there kept. step_kept service good checked requests fit seed n few w line there kept
