use Rattle.rex_safety.proofs.Raising.{doings_few}
use Rattle.rex_safety.proofs.laws.rounds_stay_few_after_doings.Goals as goal

pub returns : goal.returns
returns c = λ service requests seed n doings few. doings_few service requests seed n few doings
