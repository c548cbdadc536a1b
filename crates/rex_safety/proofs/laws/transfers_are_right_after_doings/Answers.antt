use Rattle.rex_safety.proofs.Held.{transfers_right}
use Rattle.rex_safety.proofs.Doings.{doings_reached}
use Rattle.rex_safety.proofs.laws.transfers_are_right_after_doings.Goals as goal

pub returns : goal.returns
returns c = λ service requests seed n doings few. transfers_right service seed n _ (doings_reached service requests seed n few doings)
