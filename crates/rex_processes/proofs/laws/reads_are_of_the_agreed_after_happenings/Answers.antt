use Rattle.rex_processes.specs.Processes.{processes_after}
use Rattle.rex_processes.proofs.Happenings.{processes_ok, reads_agreed}
use Rattle.rex_processes.proofs.laws.reads_are_of_the_agreed_after_happenings.Goals as goal

pub returns : goal.returns
returns c = λ service seed n xs few h. reads_agreed service seed n (processes_after service seed n xs) (processes_ok service seed n few xs h)
