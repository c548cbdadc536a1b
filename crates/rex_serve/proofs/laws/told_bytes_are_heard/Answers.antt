use Rattle.rex_serve.proofs.There.{carried_told}
use Rattle.rex_serve.proofs.laws.told_bytes_are_heard.Goals as goal

pub returns : goal.returns
returns c = carried_told
