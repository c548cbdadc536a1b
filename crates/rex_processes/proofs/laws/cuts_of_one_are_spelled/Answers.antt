use Rattle.rex_processes.proofs.Ranging.{one_can_cut}
use Rattle.rex_processes.proofs.laws.cuts_of_one_are_spelled.Goals as goal

pub returns : goal.returns
returns c = λ service x counts good checked h. one_can_cut service good checked x h counts
