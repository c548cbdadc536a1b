use Rattle.rex_safety.proofs.Faithfuls.{doings_faithful}
use Rattle.rex_safety.proofs.laws.cuts_stay_faithful_after_doings.Goals as goal

pub returns : goal.returns
returns c = λ service requests seed n doings few good checked numbers fit typed there hands short. doings_faithful service good checked numbers seed n requests typed few fit doings there hands short
