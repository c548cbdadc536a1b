use Rattle.std.proofs.Common.{◌≡◌, ◌+◌, ◌≤◌, length, drop}
use Rattle.rex_snapshot.specs.Changes.{firsts, changes_from, changes_of}
use Rattle.rex_snapshot.proofs.write_variables.change_count.Given as goal

abbrev pub invariant-loop-n : goal.invariant-loop-n
invariant-loop-n l = record {
  so_far : l.count + length (changes_from l.n (drop l.n (firsts l.svc)) (drop l.n l.values)) ≡ length (changes_of l.svc l.values);
  few : l.count ≤ l.n;
}
