use Rattle.rex_safety.proofs.Doings.{doings_prefix}
use Rattle.rex_safety.proofs.laws.known_lists_are_prefixes_after_doings.Goals as goal

pub returns : goal.returns
returns c = λ service requests seed n doings more few. doings_prefix service requests seed n doings more few
