use Rattle.std.proofs.Common.{rules, ◌++◌}
use Rattle.std.proofs.lemmas.Slice.Zip.{Zip-more, either_empty_from_Zip}
use Rattle.std.specs.Iterator.Adapters.{zip_first, zip_second}
use Rattle.std.specs.Slice.Iter.{iter_rest}
use Rattle.rex_delta.specs.Spelling.{events_bytes}
use Rattle.rex_delta.proofs.Written.{IsWriting-more, IsWriting-done}
use Rattle.rex_delta.proofs.write_events.events.Goals as goal

pub loop-e-preserved : goal.loop-e-preserved
loop-e-preserved c =
    let it = c.loop-e.e-iterator in
    let next = c.next.new.self in
    let z = Zip-more it next c.next.result (c.in-Some.e, c.in-Some.list) c.in-Some.is c.next.ensures.steps in
    record {
      can_next = search rules;
      is_finite = search rules;
      writing = IsWriting-more c.loop-e.writer c.event.new.writer (c.args.writer.now ++ events_bytes c.args.events.now c.args.lists.now) c.args.events.now (iter_rest (zip_first it)) (iter_rest (zip_first next)) (iter_rest (zip_second it)) (iter_rest (zip_second next)) c.in-Some.e.now c.in-Some.list.now z.0 z.1 (rw c.as_slice.ensures at c.in_ok-event.ensures.spelled) c.in_ok-event.ensures.typed c.loop-e.invariant.writing;
    }

pub returns-clause-spelled : goal.returns-clause-spelled
returns-clause-spelled c =
    let it = c.loop-e.e-iterator in
    (IsWriting-done c.loop-e.writer (c.args.writer.now ++ events_bytes c.args.events.now c.args.lists.now) c.args.events.now (iter_rest (zip_first it)) (iter_rest (zip_second it)) (either_empty_from_Zip it c.next.new.self c.next.result c.in-None.is c.next.ensures.steps) c.loop-e.invariant.writing).spelled

pub returns-clause-typed : goal.returns-clause-typed
returns-clause-typed c =
    let it = c.loop-e.e-iterator in
    (IsWriting-done c.loop-e.writer (c.args.writer.now ++ events_bytes c.args.events.now c.args.lists.now) c.args.events.now (iter_rest (zip_first it)) (iter_rest (zip_second it)) (either_empty_from_Zip it c.next.new.self c.next.result c.in-None.is c.next.ensures.steps) c.loop-e.invariant.writing).typed
