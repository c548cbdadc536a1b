use Rattle.std.proofs.Common.{◌≡◌, take}
use Rattle.rex_fits.specs.Applied as spec
use Rattle.rex_fits.proofs.clocks.greatest_clock.Given as goal

-- the greatest that the events before this one show
abbrev pub invariant-loop-event : goal.invariant-loop-event
invariant-loop-event l = l.greatest ≡ spec.greatest_clock l.clock (take l.event-index l.events)
