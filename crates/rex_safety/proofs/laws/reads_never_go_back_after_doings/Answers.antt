use Rattle.rex_safety.proofs.Readings.{doings_never_back}
use Rattle.rex_safety.proofs.laws.reads_never_go_back_after_doings.Goals as goal

pub returns : goal.returns
returns c = λ service requests seed n doings more few. doings_never_back service requests seed n doings more
