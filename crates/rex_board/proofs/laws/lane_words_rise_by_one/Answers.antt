use Rattle.rex_board.proofs.Moments.{rises_by_one}
use Rattle.rex_board.proofs.laws.lane_words_rise_by_one.Goals as goal

pub returns : goal.returns
returns c = λ r t t' now later seat v v' at at' role p word number is. rises_by_one r t t' now later seat v v' at at' role p word number is
