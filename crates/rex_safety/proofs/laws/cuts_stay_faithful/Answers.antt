use Rattle.rex_safety.proofs.Faithfuls.{lines_faithful}
use Rattle.rex_safety.proofs.laws.cuts_stay_faithful.Goals as goal

pub returns : goal.returns
returns c = λ service requests seed n lines few good checked numbers fit typed there short. lines_faithful service good checked numbers requests seed n few lines fit typed there short
