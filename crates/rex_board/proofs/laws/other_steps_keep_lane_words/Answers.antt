use Rattle.rex_board.proofs.Moments.{keeps_lane_words}
use Rattle.rex_board.proofs.laws.other_steps_keep_lane_words.Goals as goal

pub returns : goal.returns
returns c = λ words words' st number m m' is kind lane small. keeps_lane_words words words' st number m m' is kind lane small
