use Rattle.rex_processes.proofs.Testing.{elect_fits}
use Rattle.rex_processes.proofs.laws.tested_elections_fit.Goals as goal

pub returns : goal.returns
returns c = λ service seed n m d others knows. elect_fits service seed n m d knows others
