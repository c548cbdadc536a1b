use Rattle.rex_cluster.specs.Values.{service_of}
use Rattle.rex_safety.proofs.Agreeing.{one_value}
use Rattle.rex_processes.proofs.Happenings.{processes_ok}
use Rattle.rex_processes.proofs.laws.values_agree_after_happenings.Goals as goal

pub returns : goal.returns
returns c = λ service seed n xs few h. one_value n (service_of service seed) _ (processes_ok service seed n few xs h)
