use Rattle.rex_cut.proofs.Deltas.{delta_numbered, delta_fits}
use Rattle.rex_cut.proofs.laws.deltas_fit.Goals as goal

pub returns : goal.returns
returns c = λ cut es good. (delta_numbered cut es good, delta_fits cut es good)
