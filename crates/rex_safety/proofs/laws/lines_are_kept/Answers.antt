use Rattle.rex_safety.proofs.Keeps.{row_kept}
use Rattle.rex_safety.proofs.laws.lines_are_kept.Goals as goal

pub returns : goal.returns
returns c = λ service requests seed n w line few good checked fit there kept. row_kept service good checked requests fit seed n few w line there kept
