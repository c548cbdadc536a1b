use Rattle.std.proofs.Common.{◌≡◌, take, length}
use Rattle.rex_state.proofs.parts.put_queues.Given as goal

abbrev pub invariant-loop-index : goal.invariant-loop-index
invariant-loop-index l = record {
  put : take l.index l.queues ≡ take l.index l.others;
  long : length l.queues ≡ length l.others;
}
