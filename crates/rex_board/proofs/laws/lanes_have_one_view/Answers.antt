use Rattle.rex_board.proofs.Moments.{one_view}
use Rattle.rex_board.proofs.laws.lanes_have_one_view.Goals as goal

pub returns : goal.returns
returns c = λ r t now i j v w at at' role role' same. one_view r t now i j v w at at' role role' same
