use Rattle.rex_safety.proofs.Requests.{world_once}
use Rattle.rex_processes.proofs.Happenings.{processes_ok}
use Rattle.rex_processes.proofs.laws.requests_happen_once_after_happenings.Goals as goal

pub returns : goal.returns
returns c = λ service seed n xs few h good checked. world_once service seed n _ (processes_ok service seed n few xs h) good checked
