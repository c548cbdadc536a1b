use Rattle.rex_safety.proofs.Doings.{doings_reached}
use Rattle.rex_safety.proofs.Requests.{world_once}
use Rattle.rex_safety.proofs.laws.requests_happen_once_after_doings.Goals as goal

pub returns : goal.returns
returns c = λ service requests seed n doings few good checked. world_once service seed n _ (doings_reached service requests seed n few doings) good checked
