use Rattle.std.proofs.Common.{◌≡◌, ◌-◌}
use Rattle.rex_wire.specs.Reading.{list_at}
use Rattle.rex_wire.proofs.Repeated.{with_front}
use Rattle.rex_wire.proofs.Lists.{joined}
use Rattle.rex_msg.specs.Reading.{least_after, proposal_at, proposals_at}
use Rattle.rex_msg.proofs.read_proposals.proposals.Given as goal

abbrev pub invariant-loop : goal.invariant-loop
invariant-loop l = with_front joined l.proposals (list_at proposal_at least_after (l.count - l.counter) l.least l.reader) ≡ proposals_at l.count l.fn.reader
