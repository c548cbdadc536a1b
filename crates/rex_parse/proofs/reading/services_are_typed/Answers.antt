use Rattle.rex_parse.proofs.Typed.{services_typed}
use Rattle.rex_parse.proofs.reading.services_are_typed.Goals as goal

pub returns : goal.returns
returns c = services_typed
