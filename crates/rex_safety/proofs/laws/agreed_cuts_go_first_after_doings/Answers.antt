use Rattle.rex_safety.proofs.Caused.{cuts_first}
use Rattle.rex_safety.proofs.Doings.{doings_reached}
use Rattle.rex_safety.proofs.laws.agreed_cuts_go_first_after_doings.Goals as goal

pub returns : goal.returns
returns c = λ service requests seed n doings few good checked. cuts_first service seed n _ (doings_reached service requests seed n few doings) good checked
