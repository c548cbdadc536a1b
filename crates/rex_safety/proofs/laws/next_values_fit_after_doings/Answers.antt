use Rattle.rex_safety.proofs.Nexts.{next_fits}
use Rattle.rex_safety.proofs.Doings.{doings_reached}
use Rattle.rex_safety.proofs.laws.next_values_fit_after_doings.Goals as goal

pub returns : goal.returns
returns c = λ service requests seed n doings few. next_fits service seed n _ (doings_reached service requests seed n few doings)
