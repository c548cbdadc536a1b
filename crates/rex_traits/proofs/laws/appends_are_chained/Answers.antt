use Rattle.rex_traits.proofs.Chained.{chained}
use Rattle.rex_traits.proofs.laws.appends_are_chained.Goals as goal

pub returns : goal.returns
returns g c = chained g.K.Keeper.append_gives
