use Rattle.rex_processes.proofs.Ranging.{one_has_room}
use Rattle.rex_processes.proofs.laws.counts_of_one_have_room.Goals as goal

pub returns : goal.returns
returns c = one_has_room
