use Rattle.rex_safety.proofs.Held.{holds_agreed}
use Rattle.rex_safety.proofs.Doings.{doings_reached}
use Rattle.rex_safety.proofs.laws.nodes_hold_agreed_values_after_doings.Goals as goal

pub returns : goal.returns
returns c = λ service requests seed n doings few. holds_agreed service seed n _ (doings_reached service requests seed n few doings)
