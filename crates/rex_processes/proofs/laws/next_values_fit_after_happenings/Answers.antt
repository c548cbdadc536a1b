use Rattle.rex_safety.proofs.Nexts.{next_fits}
use Rattle.rex_processes.proofs.Happenings.{processes_ok}
use Rattle.rex_processes.proofs.laws.next_values_fit_after_happenings.Goals as goal

pub returns : goal.returns
returns c = λ service seed n xs few h. next_fits service seed n _ (processes_ok service seed n few xs h)
