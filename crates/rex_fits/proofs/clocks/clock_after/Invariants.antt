use Rattle.std.proofs.Common.{◌≡◌, take}
use Rattle.rex_fits.specs.Applied as spec
use Rattle.rex_fits.proofs.clocks.clock_after.Given as goal

-- the greatest that the values before this one show
abbrev pub invariant-loop-value : goal.invariant-loop-value
invariant-loop-value l = l.greatest ≡ spec.clock_after l.clock (take l.value-index l.values)
