use Rattle.std.proofs.Common.{◌≡◌, false, Option, refl, sym, subst}
use Rattle.rex_cluster.specs.Records.{has_old_base}
use Rattle.rex_cluster.specs.Node.{Failure}
use Rattle.rex_cluster.specs.Values.{service_of}
use Rattle.rex_cluster.proofs.Migrated.{log_after, ends_new}
use Rattle.rex_safety.proofs.laws.migrations_happen_once.Goals as goal

pub returns : goal.returns
returns c = λ service seed me d none.
    subst (λ (a : Option Failure). has_old_base (log_after (service_of service seed) me d (has_old_base d.node.log) a) ≡ false) (sym none)
    (ends_new (service_of service seed) me d (has_old_base d.node.log) refl)
