use Rattle.rex_processes.proofs.Happenings.{processes_grow}
use Rattle.rex_processes.proofs.laws.lists_only_grow_after_happenings.Goals as goal

pub returns : goal.returns
returns c = λ service seed n xs more few h. processes_grow service seed n few xs more h
