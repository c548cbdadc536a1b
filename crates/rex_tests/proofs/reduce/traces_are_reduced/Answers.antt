use Rattle.rex_reduce.proofs.Examples.{in_turn_trace, shared_trace, tried_trace, signalled_trace}
use Rattle.rex_tests.proofs.reduce.traces_are_reduced.Goals as goal

pub check-requires-clause-trace : goal.check-requires-clause-trace
check-requires-clause-trace g c = rw c.in_turn.ensures in_turn_trace.0

pub check-requires-clause-room : goal.check-requires-clause-room
check-requires-clause-room g c = rw c.in_turn.ensures in_turn_trace.1

pub check-requires-2-clause-trace : goal.check-requires-2-clause-trace
check-requires-2-clause-trace g c = rw c.shared.ensures shared_trace.0

pub check-requires-2-clause-room : goal.check-requires-2-clause-room
check-requires-2-clause-room g c = rw c.shared.ensures shared_trace.1

pub check-requires-3-clause-trace : goal.check-requires-3-clause-trace
check-requires-3-clause-trace g c = rw c.tried.ensures tried_trace.0

pub check-requires-3-clause-room : goal.check-requires-3-clause-room
check-requires-3-clause-room g c = rw c.tried.ensures tried_trace.1

pub check-requires-4-clause-trace : goal.check-requires-4-clause-trace
check-requires-4-clause-trace g c = rw c.signalled.ensures signalled_trace.0

pub check-requires-4-clause-room : goal.check-requires-4-clause-room
check-requires-4-clause-room g c = rw c.signalled.ensures signalled_trace.1
