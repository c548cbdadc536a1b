use Rattle.rex_serve.proofs.Known.{cluster_runs}
use Rattle.rex_serve.proofs.laws.clusters_run.Goals as goal

pub returns : goal.returns
returns g c = λ service seed n ts few h. cluster_runs g.K.Keeper.records g.K.Keeper.faults service seed n few ts h
