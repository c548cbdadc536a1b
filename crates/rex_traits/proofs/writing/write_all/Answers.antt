use Rattle.std.proofs.Common.{rules}
use Rattle.rex_traits.proofs.Known.{grows_piece}
use Rattle.rex_traits.proofs.writing.write_all.Goals as goal

pub loop-at-preserved : goal.loop-at-preserved
loop-at-preserved g c = record {
  written = grows_piece (g.K.Sink.taken c.args.sink.now) (g.K.Sink.taken c.loop-at.sink) (g.K.Sink.taken c.write.new.self) c.args.bytes.now c.loop-at.at c.in_ok-at.field-0 c.loop-at.invariant.written c.in_ok-at.ensures.taken;
  within = search rules;
  later = search rules;
}
