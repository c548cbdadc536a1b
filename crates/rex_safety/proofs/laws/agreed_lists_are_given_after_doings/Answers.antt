use Rattle.rex_safety.proofs.Held.{is_given}
use Rattle.rex_safety.proofs.Doings.{doings_reached}
use Rattle.rex_safety.proofs.laws.agreed_lists_are_given_after_doings.Goals as goal

pub returns : goal.returns
returns c = λ service requests seed n doings few. is_given service seed n _ (doings_reached service requests seed n few doings)
