use Rattle.rex_serve.proofs.Known.{know_one_list}
use Rattle.rex_serve.proofs.laws.clusters_know_one_list.Goals as goal

pub returns : goal.returns
returns g c = λ service seed n ts more few h. know_one_list g.K.Keeper.records g.K.Keeper.faults service seed n few ts more h
