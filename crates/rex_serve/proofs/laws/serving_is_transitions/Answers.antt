use Rattle.rex_serve.proofs.Served.{serving_moves}
use Rattle.rex_serve.proofs.laws.serving_is_transitions.Goals as goal

pub returns : goal.returns
returns g c = λ service seed n c m p q ended input before now min runs hears ends found may. serving_moves g.K.Keeper.records g.K.Flush.kept g.K.Keeper.faults service seed n m min c p q runs input hears ended before now ends found may
