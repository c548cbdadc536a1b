use Rattle.std.proofs.Common.{◌≡◌, ◌+◌, ◌-◌, arith, subst, ◌∙◌, length-set, []}
use Rattle.std.proofs.lemmas.Result.{err_from_is_err_and}
use Rattle.rex_wire.proofs.Repeated.{with_front, goes_on, fails, is_done}
use Rattle.rex_delta.specs.Spelling.{greatest_base}
use Rattle.rex_delta.specs.Reading.{Before, least_kind, first_before, next_event_at, events_at}
use Rattle.rex_wire.proofs.Lists.{joined}
use Rattle.rex_delta.specs.Parts.{all_causes_at}
use Rattle.rex_delta.specs.Alone.{alone, behind}
use Rattle.rex_delta.proofs.Lists.{before_of, before_next, after_pair, head_fails, causes_fail, event_is}
use Rattle.rex_delta.proofs.Passing.{was_read, passed_fails, one_kept, alone_in, events_are_kept}
use Rattle.rex_delta.proofs.Counting.{counted-small}
use Rattle.rex_delta.proofs.Tallies.{keep_front}
use Rattle.rex_delta.proofs.events_alone.push_events.Goals as goal

pub returns-in_err-event-clause-read : goal.returns-in_err-event-clause-read
returns-in_err-event-clause-read c =
    let bases = c.args.bases.now in
    let counts = c.loop-place.counts.items in
    let b = before_of c.args.version counts c.loop-place.due c.args.count c.loop-place.place in
    let p = err_from_is_err_and c.from_residual.result c.from_residual.ensures.1 in
    let first = rw (c.as_slice.ensures.value, c.least_kind-least.ensures, c.most_kind-most.ensures) at c.in_err-event.ensures.read in
    rw (p.1, p.2) (fails (next_event_at bases) after_pair [] one_kept joined (alone_in bases) (events_are_kept bases) c.in_err-event.field-0.0 b c.args.count c.loop-place.place c.loop-place.reader c.loop-place.events.items (behind c.args.events.now.items (alone (events_at bases (first_before c.args.version bases c.args.count) c.args.count c.args.reader.now))) c.loop-place-test.true (head_fails c.in_err-event.field-0.0 bases counts (least_kind b.due b.later) b.most c.loop-place.reader first) c.loop-place.invariant.so_far)

pub returns-in_err-pass_all_causes-clause-read : goal.returns-in_err-pass_all_causes-clause-read
returns-in_err-pass_all_causes-clause-read c =
    let bases = c.args.bases.now in
    let counts = c.loop-place.counts.items in
    let b = before_of c.args.version counts c.loop-place.due c.args.count c.loop-place.place in
    let p = err_from_is_err_and c.from_residual-in_err-pass_all_causes.result c.from_residual-in_err-pass_all_causes.ensures.1 in
    let first = rw (c.as_slice.ensures.value, c.least_kind-least.ensures, c.most_kind-most.ensures) at c.in_ok-event.ensures.read in
    let second = rw c.as_slice-in-loop-place.ensures.value at c.in_err-pass_all_causes.ensures.read in
    rw (p.1, p.2) (fails (next_event_at bases) after_pair [] one_kept joined (alone_in bases) (events_are_kept bases) c.in_err-pass_all_causes.field-0.0 b c.args.count c.loop-place.place c.loop-place.reader c.loop-place.events.items (behind c.args.events.now.items (alone (events_at bases (first_before c.args.version bases c.args.count) c.args.count c.args.reader.now))) c.loop-place-test.true (causes_fail c.in_err-pass_all_causes.field-0.0 bases counts (least_kind b.due b.later) b.most c.loop-place.reader c.head.new.reader c.in_ok-event.event first (passed_fails c.in_err-pass_all_causes.field-0.0 (all_causes_at bases counts c.in_ok-event.event.lane c.head.new.reader) second)) c.loop-place.invariant.so_far)

pub loop-place-preserved : goal.loop-place-preserved
loop-place-preserved c =
    let bases = c.args.bases.now in
    let counts = c.loop-place.counts.items in
    let event = c.in_ok-event.event in
    let b = before_of c.args.version counts c.loop-place.due c.args.count c.loop-place.place in
    let there = rw c.as_slice.ensures.value at c.in_ok-event.ensures.there in
    let numbered = rw c.as_slice.ensures.value at c.in_ok-event.ensures.numbered in
    let next = before_next c.args.version counts c.loop-place.due c.still_due-due.result c.args.count c.loop-place.place event c.still_due-due.ensures in
    let first = rw (c.as_slice.ensures.value, c.least_kind-least.ensures, c.most_kind-most.ensures) at c.in_ok-event.ensures.read in
    let second = rw c.as_slice-in-loop-place.ensures.value at c.in_ok-pass_all_causes.ensures.read in
    let causes = was_read (all_causes_at bases counts event.lane c.head.new.reader) c.pass_all_causes.new.reader second in
    let is = event_is bases counts (least_kind b.due b.later) b.most c.loop-place.reader c.head.new.reader c.pass_all_causes.new.reader event causes.value first causes.is in
    let on = goes_on (next_event_at bases) after_pair [] one_kept joined (alone_in bases) (events_are_kept bases) b c.args.count c.loop-place.place c.loop-place.reader c.loop-place.events.items (event, causes.value) c.pass_all_causes.new.reader (behind c.args.events.now.items (alone (events_at bases (first_before c.args.version bases c.args.count) c.args.count c.args.reader.now))) c.loop-place-test.true is c.loop-place.invariant.so_far in
    rw (c.count_event.ensures, c.push_reserved.ensures.items) (record {
      alike = length-set counts event.lane (event.index + 1) ∙ c.loop-place.invariant.alike;
      small = counted-small counts (greatest_base + c.loop-place.place) (greatest_base + (c.loop-place.place + 1)) event.lane event.index (omega arith) c.loop-place.invariant.small there numbered;
      so_far = subst (λ (b : Before). with_front joined (joined c.loop-place.events.items (one_kept (event, causes.value))) (alone (events_at bases b (c.args.count - (c.loop-place.place + 1)) c.pass_all_causes.new.reader)) ≡ behind c.args.events.now.items (alone (events_at bases (first_before c.args.version bases c.args.count) c.args.count c.args.reader.now))) next on;
      capacity = c.push_reserved.ensures.capacity ∙ c.loop-place.invariant.capacity;
      len = let was = c.loop-place.invariant.len in let more = c.push_reserved.ensures.len in omega (arith, was, more);
      front = keep_front c.args.events.now.items c.loop-place.events.items event c.loop-place.invariant.front;
    })

pub returns-clause-read : goal.returns-clause-read
returns-clause-read c =
    let bases = c.args.bases.now in
    is_done (next_event_at bases) after_pair [] one_kept joined (alone_in bases) (events_are_kept bases) (before_of c.args.version c.loop-place.counts.items c.loop-place.due c.args.count c.loop-place.place) c.args.count c.loop-place.place c.loop-place.reader c.loop-place.events.items (behind c.args.events.now.items (alone (events_at bases (first_before c.args.version bases c.args.count) c.args.count c.args.reader.now))) c.loop-place-test.false c.loop-place.invariant.so_far
