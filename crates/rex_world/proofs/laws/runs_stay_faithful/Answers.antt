use Rattle.rex_world.proofs.Headlines.{stays_faithful}
use Rattle.rex_world.proofs.laws.runs_stay_faithful.Goals as goal

pub returns : goal.returns
returns c = λ service requests seed n lines few good checked numbers fit typed there short. stays_faithful few good checked numbers fit typed there short
