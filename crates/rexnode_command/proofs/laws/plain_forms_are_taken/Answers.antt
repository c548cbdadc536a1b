use Rattle.rexnode_command.proofs.Taken.{both, named, places, seeded}
use Rattle.rexnode_command.proofs.laws.plain_forms_are_taken.Goals as goal

pub returns : goal.returns
returns c = record { places = places; seeded = seeded; named = named; both = both }
