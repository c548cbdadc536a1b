use Rattle.rex_words.proofs.Momentary.{one_view}
use Rattle.rex_words.proofs.laws.lanes_have_one_view.Goals as goal

pub returns : goal.returns
returns c = λ r t now i j v w at at2 role role2 same. one_view r t now i j v w at at2 role role2 same
