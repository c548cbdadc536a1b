use Rattle.rex_safety.proofs.Doings.{doings_grow}
use Rattle.rex_safety.proofs.laws.lists_only_grow_after_doings.Goals as goal

pub returns : goal.returns
returns c = λ service requests seed n doings more few. doings_grow service requests seed n doings more few
