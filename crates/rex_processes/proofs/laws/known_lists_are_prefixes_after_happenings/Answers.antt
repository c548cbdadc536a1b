use Rattle.rex_processes.proofs.Happenings.{processes_prefix}
use Rattle.rex_processes.proofs.laws.known_lists_are_prefixes_after_happenings.Goals as goal

pub returns : goal.returns
returns c = λ service seed n xs more few h. processes_prefix service seed n few xs more h
