use Rattle.rex_board.proofs.Moments.{fresh_start}
use Rattle.rex_board.proofs.laws.fresh_lanes_stand_at_the_start.Goals as goal

pub returns : goal.returns
returns c = λ r t now lane fresh few. fresh_start r t now lane fresh few
