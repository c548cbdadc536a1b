use Rattle.rex_live.specs.Places.{IsLeastBelow}
use Rattle.rex_live.proofs.places.least.Given as goal

abbrev pub invariant-loop-client : goal.invariant-loop-client
invariant-loop-client l = IsLeastBelow l.entries l.wanted l.end l.client l.place
