use Rattle.rex_serve.proofs.OneProcess.{breaks_happen}
use Rattle.rex_serve.proofs.laws.breaking_off_is_happenings.Goals as goal

pub returns : goal.returns
returns g c = λ p q w frame stands up sent same broken. breaks_happen g.K.Keeper.records g.K.Keeper.faults p q w frame stands up sent same broken
