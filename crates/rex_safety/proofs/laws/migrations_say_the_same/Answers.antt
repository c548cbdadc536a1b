use Rattle.rex_cluster.specs.Records.{has_old_base}
use Rattle.rex_cluster.specs.Values.{service_of}
use Rattle.rex_cluster.proofs.Migrated.{says_same}
use Rattle.rex_safety.proofs.laws.migrations_say_the_same.Goals as goal

pub returns : goal.returns
returns c = λ service seed me d. says_same (service_of service seed) me d (has_old_base d.node.log) d.node.armed
