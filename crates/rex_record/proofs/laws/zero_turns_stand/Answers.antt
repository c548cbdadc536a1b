use Rattle.rex_record.proofs.Goes.{turn_zero}
use Rattle.rex_record.proofs.laws.zero_turns_stand.Goals as goal

pub returns : goal.returns
returns c = λ service s queue live lane clock random semaphore good sound h. turn_zero service s queue live lane clock random semaphore good sound h
