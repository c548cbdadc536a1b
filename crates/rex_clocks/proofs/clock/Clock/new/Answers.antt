use Rattle.rex_clocks.proofs.First.{first_none}
use Rattle.rex_clocks.proofs.clock.Clock.new.Goals as goal

pub invariant_of-result : goal.invariant_of-result
invariant_of-result c = first_none
