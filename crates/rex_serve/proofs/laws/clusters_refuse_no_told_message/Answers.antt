use Rattle.rex_serve.proofs.Known.{cluster_refuses_none}
use Rattle.rex_serve.proofs.laws.clusters_refuse_no_told_message.Goals as goal

pub returns : goal.returns
returns g c = λ service seed n ts few h. cluster_refuses_none g.K.Keeper.records g.K.Keeper.faults service seed n few ts h
