use Rattle.rex_transfer.proofs.Fronts.{windows_tell}
use Rattle.rex_transfer.proofs.laws.windows_tell.Goals as goal

pub returns : goal.returns
returns c = windows_tell
