use Rattle.rex_cluster.specs.Values.{service_of}
use Rattle.rex_safety.proofs.Agreeing.{known_begins}
use Rattle.rex_processes.proofs.Happenings.{processes_ok}
use Rattle.rex_processes.proofs.laws.known_begins_agreed_after_happenings.Goals as goal

pub returns : goal.returns
returns c = λ service seed n xs few h. known_begins n (service_of service seed) _ (processes_ok service seed n few xs h)
