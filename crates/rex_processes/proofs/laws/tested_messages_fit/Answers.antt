use Rattle.rex_processes.proofs.Testing.{heard_fits}
use Rattle.rex_processes.proofs.laws.tested_messages_fit.Goals as goal

pub returns : goal.returns
returns c = λ service seed n m d others knows. heard_fits service seed n m others d knows
