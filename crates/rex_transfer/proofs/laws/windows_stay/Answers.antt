use Rattle.rex_transfer.proofs.Fronts.{windows_stay}
use Rattle.rex_transfer.proofs.laws.windows_stay.Goals as goal

pub returns : goal.returns
returns c = windows_stay
