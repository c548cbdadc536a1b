use Rattle.std.proofs.Common.{length}
use Rattle.rex_process.specs.Keeping.{ByAppends}
use Rattle.rex_process.specs.Process.{IsProcess, IsSame}
use Rattle.rex_serve.specs.Serving.{GrowsBy, IsUpOrFailed, Serves}
use Rattle.rex_serve.proofs.serving.answer_all.Given as goal

abbrev pub invariant-loop-alloc : goal.invariant-loop-alloc
invariant-loop-alloc g l = record {
  served : GrowsBy (Serves g.K.Keeper.records g.K.Keeper.faults l.fn.process l.process l.fn.bytes l.left) l.fn.out.items l.out.items;
  process : IsProcess g.K.Keeper.records g.K.Keeper.faults l.process;
  same : IsSame l.fn.process l.process;
  counts : IsUpOrFailed g.K.Keeper.faults l.fn.process l.process;
  appends : ByAppends g.K.Keeper.append_gives l.fn.process.node.keeper l.process.node.keeper;
}

abbrev pub decreases-loop-alloc : goal.decreases-loop-alloc
decreases-loop-alloc g l = length l.left
