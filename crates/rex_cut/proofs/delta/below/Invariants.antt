use Rattle.std.proofs.Common.{◌≡◌, ◌++◌, drop}
use Rattle.std.specs.List.{All}
use Rattle.rex_event.specs.Cuts.{below}
use Rattle.rex_reduce.specs.Reduced.{HasNext}
use Rattle.rex_cut.proofs.delta.below.Given as goal

abbrev pub invariant-loop-event : goal.invariant-loop-event
invariant-loop-event l = record {
  kept : l.kept.items ++ below l.counts (drop l.event-index l.events) ≡ below l.counts l.events;
  room : All HasNext l.kept.items;
}
