use Rattle.std.proofs.Common.{◌≡◌, take}
use Rattle.rex_delta.proofs.pass_events.fill.Given as goal

abbrev pub invariant-loop-number : goal.invariant-loop-number
invariant-loop-number l = l.array.items ≡ take l.number-index l.numbers
