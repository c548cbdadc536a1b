use Rattle.rex_cluster.specs.Agreed.{world_after}
use Rattle.rex_safety.proofs.Steps.{reached_ok}
use Rattle.rex_safety.proofs.Readings.{tells_agreed}
use Rattle.rex_safety.proofs.laws.reads_are_of_the_agreed.Goals as goal

pub returns : goal.returns
returns c = λ service requests seed n lines few. tells_agreed service seed n (world_after service requests seed n lines) (reached_ok service requests seed n few lines)
