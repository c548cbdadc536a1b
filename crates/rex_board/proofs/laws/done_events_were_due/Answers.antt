use Rattle.rex_board.proofs.Moments.{done_was_due}
use Rattle.rex_board.proofs.laws.done_events_were_due.Goals as goal

pub returns : goal.returns
returns c = λ r m m' e done later t now at. done_was_due r m m' e done later t now at
