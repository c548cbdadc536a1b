use Rattle.std.proofs.Common.{◌≡◌, ◌-◌, ◌≤◌, length}
use Rattle.std.specs.List.{All}
use Rattle.rex_wire.specs.Reading.{list_at}
use Rattle.rex_snapshot.specs.Changes.{IsWithin}
use Rattle.rex_snapshot.specs.Reading.{after_change, change_at, changes_at}
use Rattle.rex_snapshot.proofs.Repeated.{with_front}
use Rattle.rex_snapshot.proofs.read_variables.changes.Given as goal

abbrev pub invariant-loop : goal.invariant-loop
invariant-loop l = record {
  least : l.least ≤ length l.svc.variables;
  so_far : with_front l.changes (list_at (change_at l.svc) after_change (l.count - l.counter) l.least l.reader) ≡ changes_at l.svc l.count l.fn.reader;
  inside : All (IsWithin (length l.svc.variables)) l.changes;
}
