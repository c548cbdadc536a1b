use Rattle.std.proofs.Common.{◌≡◌, ◌-◌, ◌+◌, ◌≤◌, length}
use Rattle.std.specs.List.{All}
use Rattle.rex_wire.proofs.Repeated.{with_front}
use Rattle.rex_delta.specs.Spelling.{greatest_base}
use Rattle.rex_delta.specs.Reading.{first_before, events_at}
use Rattle.rex_delta.specs.Parts.{passed}
use Rattle.rex_delta.proofs.Lists.{before_of}
use Rattle.rex_delta.proofs.Passing.{neither}
use Rattle.rex_delta.proofs.pass_events.pass_events.Given as goal

abbrev pub invariant-loop-place : goal.invariant-loop-place
invariant-loop-place l = record {
  alike : length l.counts.items ≡ length l.bases;
  small : All (λ n. n ≤ greatest_base + l.place) l.counts.items;
  so_far : with_front neither tt (passed (events_at l.bases (before_of l.version l.counts.items l.due l.count l.place) (l.count - l.place) l.reader)) ≡ passed (events_at l.bases (first_before l.version l.bases l.count) l.count l.fn.reader);
}
