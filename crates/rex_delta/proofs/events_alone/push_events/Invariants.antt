use Rattle.std.proofs.Common.{◌≡◌, ◌-◌, ◌+◌, ◌≤◌, length, take}
use Rattle.std.specs.Prelude.{vec_len, vec_capacity}
use Rattle.std.specs.List.{All}
use Rattle.rex_wire.proofs.Repeated.{with_front}
use Rattle.rex_delta.specs.Spelling.{greatest_base}
use Rattle.rex_delta.specs.Reading.{first_before, events_at}
use Rattle.rex_delta.specs.Alone.{alone, behind}
use Rattle.rex_delta.proofs.Lists.{before_of}
use Rattle.rex_wire.proofs.Lists.{joined}
use Rattle.rex_delta.proofs.events_alone.push_events.Given as goal

abbrev pub invariant-loop-place : goal.invariant-loop-place
invariant-loop-place l = record {
  alike : length l.counts.items ≡ length l.bases;
  small : All (λ n. n ≤ greatest_base + l.place) l.counts.items;
  so_far : with_front joined l.events.items (alone (events_at l.bases (before_of l.version l.counts.items l.due l.count l.place) (l.count - l.place) l.reader))
      ≡ behind l.initial.events.items (alone (events_at l.bases (first_before l.version l.bases l.count) l.count l.fn.reader));
  capacity : vec_capacity l.events ≡ vec_capacity l.initial.events;
  len : vec_len l.events ≡ vec_len l.initial.events + l.place;
  front : take (length l.initial.events.items) l.events.items ≡ l.initial.events.items;
}
