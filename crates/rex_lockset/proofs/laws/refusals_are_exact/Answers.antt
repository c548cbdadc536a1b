use Rattle.rex_lockset.proofs.Law as law
use Rattle.rex_lockset.proofs.laws.refusals_are_exact.Goals as goal

pub returns : goal.returns
returns c = law.refusals_are_exact
