use Rattle.rex_log.proofs.Pasts.{longer}
use Rattle.rex_log.proofs.laws.longer_pasts_read_the_same.Goals as goal

pub returns : goal.returns
returns c = longer
