use Rattle.std.proofs.Common.{◌≡◌, ◌+◌}
use Rattle.rex_steady.specs.Schedule.{replays}
use Rattle.rex_lead.specs.Doing.{Did}
use Rattle.rex_lead.proofs.leading.replay.Given as goal

-- the nodes from 2 to this one have replayed
abbrev pub invariant-loop-others : goal.invariant-loop-others
invariant-loop-others g l = record {
  did : Did l.svc l.initial.world l.world (replays l.others);
  done : l.world.done + 1 ≡ l.initial.world.done + l.others;
}
