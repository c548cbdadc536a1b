use Rattle.rex_serve.proofs.Clusters.{clusters_happen}
use Rattle.rex_serve.proofs.laws.clusters_are_processes.Goals as goal

pub returns : goal.returns
returns g c = λ service seed n ts few h. clusters_happen g.K.Keeper.records g.K.Keeper.faults service seed n ts h
