use Rattle.std.proofs.Common.{◌≡◌, ◌-◌, length, drop}
use Rattle.rex_cut.specs.Delta.{bases_from}
use Rattle.rex_cut.proofs.delta.lower_to_first.Given as goal

abbrev pub invariant-loop-event : goal.invariant-loop-event
invariant-loop-event l = l.bases ≡ bases_from (drop (length l.events - length l.yielded) l.events) 0 l.initial.bases
