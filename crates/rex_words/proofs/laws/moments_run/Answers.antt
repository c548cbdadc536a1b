use Rattle.rex_words.proofs.Momentary.{moment_runs}
use Rattle.rex_words.proofs.laws.moments_run.Goals as goal

pub returns : goal.returns
returns c = λ r t now. moment_runs r t now
