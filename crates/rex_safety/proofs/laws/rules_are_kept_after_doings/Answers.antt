use Rattle.rex_safety.proofs.Ruled.{rules}
use Rattle.rex_safety.proofs.Doings.{doings_reached}
use Rattle.rex_safety.proofs.Promising.{doings_reached_cand}
use Rattle.rex_safety.proofs.laws.rules_are_kept_after_doings.Goals as goal

pub returns : goal.returns
returns c = λ service requests seed n doings few. rules service seed n few _ (doings_reached service requests seed n few doings) (doings_reached_cand service requests seed n few doings)
