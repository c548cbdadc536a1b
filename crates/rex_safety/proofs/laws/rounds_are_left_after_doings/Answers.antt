use Rattle.rex_safety.proofs.Raising.{doings_left}
use Rattle.rex_safety.proofs.laws.rounds_are_left_after_doings.Goals as goal

pub returns : goal.returns
returns c = λ service requests seed n doings few l i x e. doings_left service requests seed n few doings l i x e
