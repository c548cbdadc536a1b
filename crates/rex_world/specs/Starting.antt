-- A node that has come up.
use Rattle.std.specs.Prelude.{◌≡◌, ℕ, [], ◌∷◌, length}
use Rattle.rex_state.specs.Value.{StateValue}
use Rattle.rex_report.specs.declared.effect.Effect.TheVariants as effect
use Rattle.rex_cluster.specs.Records.{known, promise}
use Rattle.rex_cluster.specs.Node.{Service}
use Rattle.rex_cluster.specs.Calls.{begin, migrate}
use Rattle.rex_cluster.specs.Values.{Value}
use Rattle.rex_cluster.specs.Lanes.{Here}
use Rattle.rex_node.specs.declared.step.Step.{Step}

-- it says so, and its last checkpoint is migrated
pub record CameBack (sv : Service Value StateValue) (number : ℕ) (before after : Here) (step : Step) : Type 0 where
  pub node : after ≡ (migrate sv number (begin before)).node
  pub sends : step.sends ≡ []
  pub effects : step.effects ≡ effect.Started number (promise before.log) (length (known before.log)) before.replayed ∷ (migrate sv number (begin before)).effects
