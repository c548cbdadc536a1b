use Rattle.rex_safety.proofs.Takes.{doings_kept}
use Rattle.rex_safety.proofs.laws.doings_are_kept.Goals as goal

pub returns : goal.returns
returns c = λ service requests seed n w doings few good checked fit there kept. doings_kept service good checked requests fit seed n few w doings there kept
