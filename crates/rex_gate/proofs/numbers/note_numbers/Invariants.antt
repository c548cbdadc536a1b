use Rattle.std.proofs.Common.{◌≡◌, drop}
use Rattle.rex_gate.specs.Numbers.{numbered}
use Rattle.rex_gate.proofs.numbers.note_numbers.Given as goal

-- noting the remaining events too leaves what noting all leaves
abbrev pub invariant-loop-event : goal.invariant-loop-event
invariant-loop-event l = numbered l.number l.stamps (drop l.event-index l.events) ≡ numbered l.number l.initial.stamps l.events
