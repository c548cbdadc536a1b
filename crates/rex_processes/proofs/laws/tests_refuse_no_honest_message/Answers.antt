use Rattle.rex_processes.proofs.Sending.{messages_good}
use Rattle.rex_processes.proofs.laws.tests_refuse_no_honest_message.Goals as goal

pub returns : goal.returns
returns c = λ service seed n xs few h p a. messages_good service seed n few xs h a p
