use Rattle.std.proofs.Common.{◌≡◌, drop, length}
use Rattle.rex_state.specs.Start.{no_entries}
use Rattle.rex_snapshot.specs.Parts.{entered}
use Rattle.rex_snapshot.proofs.read_state.entries.Given as goal

abbrev pub invariant-loop-k : goal.invariant-loop-k
invariant-loop-k l = record {
  long : length l.entries.items ≡ 257;
  so_far : entered l.entries.items (drop l.k-index l.known) ≡ entered no_entries l.known;
}
