use Rattle.rex_cluster.proofs.Few.{counts_are_few}
use Rattle.rex_safety.proofs.laws.counts_are_few.Goals as goal

pub returns : goal.returns
returns c = λ service vs s lane h r. counts_are_few service vs s lane h r
