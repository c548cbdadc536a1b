use Rattle.rex_log.proofs.Pasts.{alike}
use Rattle.rex_log.proofs.laws.pasts_read_the_same.Goals as goal

pub returns : goal.returns
returns c = alike
