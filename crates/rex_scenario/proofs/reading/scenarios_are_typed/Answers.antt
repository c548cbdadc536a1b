use Rattle.rex_scenario.proofs.Typed.{scenarios_typed}
use Rattle.rex_scenario.proofs.reading.scenarios_are_typed.Goals as goal

pub returns : goal.returns
returns c = scenarios_typed
