use Rattle.rex_world.proofs.Headlines.{headline}
use Rattle.rex_world.proofs.laws.headline_holds.Goals as goal

pub returns : goal.returns
returns c = λ service requests seed n lines few good checked fit. headline few good checked fit
