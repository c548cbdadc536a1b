use Rattle.rex_cluster.proofs.Limits.{values_limited}
use Rattle.rex_safety.proofs.laws.values_lead_to_limited_states.Goals as goal

pub returns : goal.returns
returns c = λ service vs s good checked fit few runs. values_limited service vs s good checked fit few runs
