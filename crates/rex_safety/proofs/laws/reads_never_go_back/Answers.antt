use Rattle.rex_safety.proofs.Readings.{never_back}
use Rattle.rex_safety.proofs.laws.reads_never_go_back.Goals as goal

pub returns : goal.returns
returns c = λ service requests seed n lines more few. never_back service requests seed n lines more
