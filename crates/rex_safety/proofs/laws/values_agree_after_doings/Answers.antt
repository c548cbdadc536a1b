use Rattle.rex_safety.proofs.Agreeing.{one_value}
use Rattle.rex_safety.proofs.Doings.{doings_reached}
use Rattle.rex_cluster.specs.Values.{service_of}
use Rattle.rex_safety.proofs.laws.values_agree_after_doings.Goals as goal

pub returns : goal.returns
returns c = λ service requests seed n doings few. one_value n (service_of service seed) _ (doings_reached service requests seed n few doings)
