use Rattle.std.proofs.Common.{◌++◌}
use Rattle.std.specs.Iterator.Adapters.{zip_first, zip_second}
use Rattle.std.specs.Slice.Iter.{iter_rest}
use Rattle.rex_delta.specs.Spelling.{events_bytes}
use Rattle.rex_delta.proofs.Written.{IsWriting}
use Rattle.rex_delta.proofs.write_events.events.Given as goal

abbrev pub invariant-loop-e : goal.invariant-loop-e
invariant-loop-e l = record {
  can_next : (goal.iterator-loop-e).can_next l.e-iterator;
  is_finite : (goal.iterator-loop-e).is_finite l.e-iterator;
  writing : IsWriting l.writer (l.initial.writer ++ events_bytes l.events l.lists) l.events (iter_rest (zip_first l.e-iterator)) (iter_rest (zip_second l.e-iterator));
}
