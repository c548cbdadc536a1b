use Rattle.rex_log.proofs.Pasts.{state_told}
use Rattle.rex_log.proofs.laws.states_are_told.Goals as goal

pub returns : goal.returns
returns c = state_told
