use Rattle.rex_serve.proofs.Known.{cluster_tells_known}
use Rattle.rex_serve.proofs.laws.clusters_tell_what_is_known.Goals as goal

pub returns : goal.returns
returns g c = λ service seed n ts few h. cluster_tells_known g.K.Keeper.records g.K.Keeper.faults service seed n few ts h
