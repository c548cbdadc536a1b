use Rattle.rex_safety.proofs.Caused.{least_agreed}
use Rattle.rex_safety.proofs.Doings.{doings_reached}
use Rattle.rex_safety.proofs.laws.agreed_causes_are_least_after_doings.Goals as goal

pub returns : goal.returns
returns c = λ service requests seed n doings few good checked. least_agreed service seed n _ (doings_reached service requests seed n few doings) good checked
