use Rattle.rex_log.proofs.Pasts.{log_then}
use Rattle.rex_log.proofs.laws.one_more_is_read.Goals as goal

pub returns : goal.returns
returns c = log_then
