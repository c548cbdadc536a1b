use Rattle.rex_cut.proofs.Deltas.{delta_least}
use Rattle.rex_cut.proofs.laws.causes_are_least.Goals as goal

pub returns : goal.returns
returns c = λ cut es good. delta_least cut es good
