use Rattle.rex_serve.proofs.OneProcess.{answers_happen}
use Rattle.rex_serve.proofs.laws.answers_are_happenings.Goals as goal

pub returns : goal.returns
returns g c = λ p q w frame out stands up sent answers. answers_happen g.K.Keeper.records g.K.Keeper.faults p q w frame stands up sent out answers
