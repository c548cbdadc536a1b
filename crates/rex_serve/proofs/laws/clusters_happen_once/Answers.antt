use Rattle.rex_serve.proofs.Known.{cluster_happens_once}
use Rattle.rex_serve.proofs.laws.clusters_happen_once.Goals as goal

pub returns : goal.returns
returns g c = λ service seed n ts few h good checked. cluster_happens_once g.K.Keeper.records g.K.Keeper.faults service seed n few ts h good checked
