use Rattle.std.proofs.Common.{◌≡◌, [], drop}
use Rattle.std.specs.List.{All}
use Rattle.rex_event.specs.Limits.{most_lanes}
use Rattle.rex_cut.specs.Greatest.{lowered}
use Rattle.rex_clocks.specs.Lanes.{HasLane}
use Rattle.rex_cut.proofs.cuts.lower.Given as goal

abbrev pub invariant-loop-event : goal.invariant-loop-event
invariant-loop-event l = record {
  lowered : lowered l.out.items l.counts (drop l.event-index l.events) ≡ lowered [] l.initial.counts l.events;
  lanes : All (HasLane most_lanes) l.out.items;
}
