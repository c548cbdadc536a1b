use Rattle.rex_safety.specs.Doings.{world_after_doings}
use Rattle.rex_safety.proofs.Doings.{doings_reached}
use Rattle.rex_safety.proofs.Readings.{tells_agreed}
use Rattle.rex_safety.proofs.laws.reads_are_of_the_agreed_after_doings.Goals as goal

pub returns : goal.returns
returns c = λ service requests seed n doings few. tells_agreed service seed n (world_after_doings service requests seed n doings) (doings_reached service requests seed n few doings)
