use Rattle.std.proofs.Common.{◌≡◌, ℕ, ◌<◌, ◌≤◌, length}
use Rattle.rex_event.specs.Cuts.{count_at}
use Rattle.rex_event.specs.declared.event.TheConstants.{LANES}
use Rattle.rex_clocks.proofs.clock.copy_counts.Given as goal

abbrev pub invariant-loop-lane : goal.invariant-loop-lane
invariant-loop-lane l = record {
  done : (k : ℕ) → k < l.lane → count_at l.counts k ≡ count_at l.others k;
  left : (k : ℕ) → l.lane ≤ k → count_at l.counts k ≡ count_at l.initial.counts k;
  long : length l.counts ≡ LANES;
}
