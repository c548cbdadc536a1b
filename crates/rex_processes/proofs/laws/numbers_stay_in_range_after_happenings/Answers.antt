use Rattle.rex_processes.proofs.Sending.{processes_fit}
use Rattle.rex_processes.proofs.laws.numbers_stay_in_range_after_happenings.Goals as goal

pub returns : goal.returns
returns c = λ service seed n xs few h a. processes_fit service seed n few xs h a
