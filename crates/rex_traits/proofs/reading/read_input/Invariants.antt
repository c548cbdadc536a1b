use Rattle.std.proofs.Common.{◌≡◌, ◌<◌, ◌≤◌, ◌+◌, ◌++◌, false, length}
use Rattle.std.specs.Io.KnownBytes.{Consumes}
use Rattle.rex_traits.specs.Causes.{TellsAlike}
use Rattle.rex_traits.specs.declared.reading.TheConstants.{READ_BYTES}
use Rattle.rex_traits.proofs.reading.read_input.Given as goal

abbrev pub invariant-loop-turn : goal.invariant-loop-turn
invariant-loop-turn g l = record {
  given : g.S.Source.given l.source ≡ g.S.Source.given l.fn.source ++ l.bytes.items;
  taken : Consumes (g.S.Source.left l.fn.source) (g.S.Source.left l.source) l.bytes.items;
  not_ended : 0 < l.turn → g.S.Source.ended l.source ≡ false;
  turns : l.turn ≤ length l.bytes.items;
  most : length l.bytes.items ≤ READ_BYTES;
  told : TellsAlike (g.S.Source.left l.fn.source) (g.S.Source.left l.source);
  reads : g.S.Source.calls l.source ≤ g.S.Source.calls l.fn.source + l.turn;
  later : g.S.Source.faults l.fn.source ≤ g.S.Source.faults l.source;
}
