use Rattle.rex_cluster.specs.Records.{has_old_base}
use Rattle.rex_cluster.specs.Values.{service_of}
use Rattle.rex_cluster.proofs.Migrated.{keeps_state}
use Rattle.rex_safety.proofs.laws.migrations_keep_states.Goals as goal

pub returns : goal.returns
returns c = λ service seed me d s was is. keeps_state (service_of service seed) me d s was is (has_old_base d.node.log) d.node.armed
