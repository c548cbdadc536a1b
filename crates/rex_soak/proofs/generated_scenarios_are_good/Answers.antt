use Rattle.rex_soak.proofs.Whole as whole
use Rattle.rex_soak.proofs.generated_scenarios_are_good.Goals as goal

pub returns : goal.returns
returns c = whole.generated_scenarios_are_good
