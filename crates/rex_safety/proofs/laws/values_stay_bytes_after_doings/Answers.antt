use Rattle.rex_safety.proofs.Nexts.{values_bytes}
use Rattle.rex_safety.proofs.Doings.{doings_reached}
use Rattle.rex_safety.proofs.laws.values_stay_bytes_after_doings.Goals as goal

pub returns : goal.returns
returns c = λ service requests seed n doings few. values_bytes service seed n _ (doings_reached service requests seed n few doings)
