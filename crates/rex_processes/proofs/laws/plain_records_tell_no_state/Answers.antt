use Rattle.rex_processes.proofs.Stateless.{plain_tells_none}
use Rattle.rex_processes.proofs.laws.plain_records_tell_no_state.Goals as goal

pub returns : goal.returns
returns c = λ service seed n m task d k plain none. plain_tells_none service seed n m d plain none task k
