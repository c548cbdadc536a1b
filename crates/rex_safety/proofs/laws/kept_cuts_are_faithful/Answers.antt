use Rattle.rex_safety.proofs.Spelled.{kept_faithful}
use Rattle.rex_safety.proofs.laws.kept_cuts_are_faithful.Goals as goal

pub returns : goal.returns
returns c = λ service seed n w good checked kept m l e active counts are some typed. kept_faithful service good checked seed n w kept m l e active counts are some typed
