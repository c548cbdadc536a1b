use Rattle.rex_serve.proofs.OneProcess.{starts_happen}
use Rattle.rex_serve.proofs.laws.starts_are_happenings.Goals as goal

pub returns : goal.returns
returns g c = starts_happen g.K.Keeper.records
