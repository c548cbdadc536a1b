use Rattle.std.proofs.Common.{arith}
use Rattle.rex_cut.proofs.Examples.{locked_cut, shared_cut}
use Rattle.rex_tests.proofs.cut.traces_are_cut.Goals as goal

pub check-requires : goal.check-requires
check-requires g c = rw c.locked.ensures (locked_cut 2 2 (omega arith) (omega arith))

pub check-requires-2 : goal.check-requires-2
check-requires-2 g c = rw c.shared.ensures (shared_cut 3 3 2 (omega arith) (omega arith) (omega arith))
