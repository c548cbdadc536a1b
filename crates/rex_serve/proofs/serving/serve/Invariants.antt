use Rattle.std.proofs.Common.{◌≡◌, ◌≤◌, true}
use Rattle.rex_frames.specs.Frames.{front_of}
use Rattle.rex_frames.specs.Frames.AtFront.{More}
use Rattle.rex_process.specs.Keeping.{ByAppendsAndFlushes}
use Rattle.rex_process.specs.Process.{IsProcess, IsSame}
use Rattle.rex_serve.specs.Serving.{GrowsBy, HasServed}
use Rattle.rex_serve.proofs.serving.serve.Given as goal

abbrev pub invariant-loop : goal.invariant-loop
invariant-loop g l = record {
  served : GrowsBy (λ input. HasServed g.K.Keeper.records g.K.Flush.kept g.K.Keeper.faults l.fn.process l.process input l.held.items (g.W.Sink.taken l.fn.sink) (g.W.Sink.taken l.sink))
      (g.S.Source.given l.fn.source) (g.S.Source.given l.source);
  rest : front_of l.held.items ≡ More;
  up : l.process.node.up ≡ true;
  process : IsProcess g.K.Keeper.records g.K.Keeper.faults l.process;
  same : IsSame l.fn.process l.process;
  counts : g.K.Keeper.faults l.fn.process.node.keeper ≤ g.K.Keeper.faults l.process.node.keeper;
  keeper : ByAppendsAndFlushes g.K.Keeper.append_gives g.K.Flush.flush_gives l.fn.process.node.keeper l.process.node.keeper;
  reads : l.counter ≤ g.S.Source.calls l.source;
  read_later : g.S.Source.faults l.fn.source ≤ g.S.Source.faults l.source;
  written_later : g.W.Sink.faults l.fn.sink ≤ g.W.Sink.faults l.sink;
}
