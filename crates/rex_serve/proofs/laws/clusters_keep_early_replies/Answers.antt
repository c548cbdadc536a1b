use Rattle.rex_serve.proofs.Replied.{cluster_early_stand}
use Rattle.rex_serve.proofs.laws.clusters_keep_early_replies.Goals as goal

pub returns : goal.returns
returns g c = λ service seed n ts few good checked h. cluster_early_stand g.K.Keeper.records g.K.Keeper.faults service seed n few good checked ts h
