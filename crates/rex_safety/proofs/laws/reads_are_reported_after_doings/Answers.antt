use Rattle.rex_safety.specs.Doings.{world_after_doings}
use Rattle.rex_safety.proofs.Readings.{reports}
use Rattle.rex_safety.proofs.laws.reads_are_reported_after_doings.Goals as goal

pub returns : goal.returns
returns c = λ service requests seed n doings few. reports service n (world_after_doings service requests seed n doings)
