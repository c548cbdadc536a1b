use Rattle.std.proofs.Common.{◌≡◌, ◌++◌, drop}
use Rattle.rex_gate.specs.Numbers.{numbers_of_state}
use Rattle.rex_gate.proofs.numbers.stamps_of.Given as goal

-- the stamps so far, then those of the remaining entries, are those of all
abbrev pub invariant-loop-entry : goal.invariant-loop-entry
invariant-loop-entry l = l.stamps.items ++ numbers_of_state (drop l.entry-index l.clients) ≡ numbers_of_state l.clients
