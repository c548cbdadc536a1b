use Rattle.rex_processes.proofs.Happenings.{processes_agreed}
use Rattle.rex_processes.proofs.laws.released_replies_are_agreed_after_happenings.Goals as goal

pub returns : goal.returns
returns c = λ service seed n xs few good checked h. processes_agreed service good checked seed n few xs h
