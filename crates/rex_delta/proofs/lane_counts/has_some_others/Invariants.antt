use Rattle.std.proofs.Common.{◌≡◌, ◌+◌, ◌<◌}
use Rattle.rex_delta.specs.Spelling.{others_below}
use Rattle.rex_delta.proofs.lane_counts.has_some_others.Given as goal

abbrev pub invariant-loop-other : goal.invariant-loop-other
invariant-loop-other l = record {
  so_far : l.left + others_below l.bases l.counts l.lane l.other ≡ l.count;
  some : 0 < l.left;
}
