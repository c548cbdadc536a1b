use Rattle.rex_cut.proofs.Examples.{in_turn_cut}
use Rattle.rex_tests.proofs.reduce.deltas_have_reduced_causes.Goals as goal

pub count_in_delta-requires : goal.count_in_delta-requires
count_in_delta-requires g c = rw c.in_turn.ensures in_turn_cut
