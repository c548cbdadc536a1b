use Rattle.rex_delta.proofs.EventsAgain.{another}
use Rattle.rex_delta.proofs.laws.no_spelling_begins_another.Goals as goal

pub returns : goal.returns
returns c = another
