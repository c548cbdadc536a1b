use Rattle.rex_processes.proofs.Stateless.{processes_stateless}
use Rattle.rex_processes.proofs.laws.processes_stay_stateless.Goals as goal

pub returns : goal.returns
returns c = λ service seed n xs few h p. processes_stateless service seed n few xs h p
