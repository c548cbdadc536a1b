use Rattle.rex_world.proofs.Common.{◌∙◌}
use Rattle.rex_world.proofs.world.World.agreed.Goals as goal

pub returns : goal.returns
returns g c = λ service running. c.as_slice.ensures ∙ running.agreed
