use Rattle.rex_cluster.specs.Agreed.{world_after}
use Rattle.rex_safety.proofs.Readings.{reports}
use Rattle.rex_safety.proofs.laws.reads_are_reported.Goals as goal

pub returns : goal.returns
returns c = λ service requests seed n lines few. reports service n (world_after service requests seed n lines)
