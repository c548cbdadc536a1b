use Rattle.rex_safety.proofs.Spelled.{kept_room}
use Rattle.rex_safety.proofs.laws.kept_counts_have_room.Goals as goal

pub returns : goal.returns
returns c = λ service seed n w good checked kept m l e active lane. kept_room service good checked seed n w kept m l e active lane
