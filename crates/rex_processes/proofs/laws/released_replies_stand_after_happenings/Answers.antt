use Rattle.rex_processes.proofs.Happenings.{processes_stand}
use Rattle.rex_processes.proofs.laws.released_replies_stand_after_happenings.Goals as goal

pub returns : goal.returns
returns c = λ service seed n xs few good checked h. processes_stand service good checked seed n few xs h
