use Rattle.std.proofs.Common.{subst, sym}
use Rattle.rex_crew.specs.Rounds.{AreSeatsOf}
use Rattle.rex_crew.proofs.crew.Crew.work.Goals as goal

pub work_on-requires-clause-seats : goal.work_on-requires-clause-seats
work_on-requires-clause-seats g c κs within = subst (AreSeatsOf _ _) (sym c.as_mut_slice.ensures.value) c.requires.seats
