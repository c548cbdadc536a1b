use Rattle.rex_lockset.proofs.There as there
use Rattle.rex_lockset.proofs.laws.refusals_are_there.Goals as goal

pub returns : goal.returns
returns c = there.refusals_are_there
