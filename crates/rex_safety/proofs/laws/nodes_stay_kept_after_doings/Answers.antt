use Rattle.rex_safety.proofs.Doings.{doings_nodes}
use Rattle.rex_safety.proofs.laws.nodes_stay_kept_after_doings.Goals as goal

pub returns : goal.returns
returns c = λ service requests seed n doings few. doings_nodes service requests seed n few doings
