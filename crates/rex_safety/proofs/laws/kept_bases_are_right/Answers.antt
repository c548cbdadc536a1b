use Rattle.rex_safety.proofs.Agreeing.{base_is_right}
use Rattle.rex_safety.proofs.laws.kept_bases_are_right.Goals as goal

pub returns : goal.returns
returns c = λ service seed n w good checked kept. base_is_right service seed n w kept.world
