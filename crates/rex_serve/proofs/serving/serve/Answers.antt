use Rattle.std.proofs.Common.{◌≤◌, take, arith}
use Rattle.rex_process.proofs.Keeping.{more_done}
use Rattle.rex_serve.proofs.Counting.{rose_behind}
use Rattle.rex_serve.proofs.Grown.{same_join}
use Rattle.rex_serve.proofs.Sent.{ends_so, goes_on}
use Rattle.rex_serve.proofs.serving.serve.Goals as goal

pub returns-in-Err-serve_piece-clause-served : goal.returns-in-Err-serve_piece-clause-served
returns-in-Err-serve_piece-clause-served g c =
    ends_so g.K.Keeper.records g.K.Flush.kept g.K.Keeper.faults c.in-Err-serve_piece.ended c.args.process.now c.loop.process c.serve_piece.new.process c.loop.held.items (take c.in-Ok.count c.read.new.buf)
    (g.S.Source.given c.args.source.now) (g.S.Source.given c.loop.source) (g.S.Source.given c.read.new.self) (g.W.Sink.taken c.args.sink.now) (g.W.Sink.taken c.loop.sink) (g.W.Sink.taken c.serve_piece.new.sink)
    c.loop.invariant.served c.in-Err-serve_piece.ensures.served.0 c.in-Err-serve_piece.ensures.served.1 c.in-Ok.ensures.given

pub loop-preserved : goal.loop-preserved
loop-preserved g c = record {
  served = goes_on g.K.Keeper.records g.K.Flush.kept g.K.Keeper.faults c.args.process.now c.loop.process c.serve_piece.new.process c.loop.held.items (take c.in-Ok.count c.read.new.buf) c.serve_piece.new.held.items
      (g.S.Source.given c.args.source.now) (g.S.Source.given c.loop.source) (g.S.Source.given c.read.new.self) (g.W.Sink.taken c.args.sink.now) (g.W.Sink.taken c.loop.sink) (g.W.Sink.taken c.serve_piece.new.sink)
      c.loop.invariant.served c.in_default.ensures.served.0 c.in-Ok.ensures.given;
  rest = c.in_default.ensures.served.1;
  up = c.in_default.ensures.served.2;
  process = c.in_default.ensures.ok;
  same = same_join c.args.process.now c.loop.process c.serve_piece.new.process c.loop.invariant.same c.serve_piece.ensures.same;
  counts = (let a = c.loop.invariant.counts in let b : g.K.Keeper.faults c.loop.process.node.keeper ≤ g.K.Keeper.faults c.serve_piece.new.process.node.keeper = c.in_default.ensures.counts in omega arith);
  keeper = more_done g.K.Keeper.append_gives g.K.Flush.flush_gives c.args.process.now.node.keeper c.loop.process.node.keeper c.serve_piece.new.process.node.keeper c.loop.invariant.keeper c.serve_piece.ensures.keeper;
  reads = (let called = c.read.ensures.called in let before = c.loop.invariant.reads in let few = c.loop-test.true in omega arith);
  read_later = (let one = c.loop.invariant.read_later in let two : g.S.Source.faults c.loop.source ≤ g.S.Source.faults c.read.new.self = c.read.ensures.cause.later in omega arith);
  written_later = (let one = c.loop.invariant.written_later in let two = c.serve_piece.ensures.later in omega arith);
}

pub returns-in-Err-serve_piece-clause-keeper : goal.returns-in-Err-serve_piece-clause-keeper
returns-in-Err-serve_piece-clause-keeper g c =
    more_done g.K.Keeper.append_gives g.K.Flush.flush_gives c.args.process.now.node.keeper c.loop.process.node.keeper c.serve_piece.new.process.node.keeper c.loop.invariant.keeper c.serve_piece.ensures.keeper

pub returns-in-Err-serve_piece-clause-down : goal.returns-in-Err-serve_piece-clause-down
returns-in-Err-serve_piece-clause-down g c = λ down.
    rose_behind (g.K.Keeper.faults c.args.process.now.node.keeper) (g.K.Keeper.faults c.loop.process.node.keeper) (g.K.Keeper.faults c.serve_piece.new.process.node.keeper) c.loop.invariant.counts
    (c.serve_piece.ensures.down (let a = c.in-Err-serve_piece.is in cc))
