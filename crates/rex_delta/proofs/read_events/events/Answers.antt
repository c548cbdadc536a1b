use Rattle.std.proofs.Common.{◌≡◌, ◌+◌, ◌-◌, arith, subst, ◌∙◌, length-set}
use Rattle.std.proofs.lemmas.Result.{err_from_is_err_and}
use Rattle.rex_wire.proofs.Repeated.{with_front, goes_on, fails, is_done}
use Rattle.rex_delta.specs.Spelling.{greatest_base}
use Rattle.rex_delta.specs.Reading.{Before, least_kind, first_before, next_event_at, events_at}
use Rattle.rex_delta.proofs.Lists.{before_of, before_next, after_pair, none_listed, one_listed, both_listed, events_repeated, head_fails, causes_fail, event_is}
use Rattle.rex_delta.proofs.Counting.{counted-small}
use Rattle.rex_delta.proofs.read_events.events.Goals as goal

pub returns-in_err-event : goal.returns-in_err-event
returns-in_err-event c =
    let bases = c.args.bases.now in
    let counts = c.loop-place.counts.items in
    let b = before_of c.args.version counts c.loop-place.due c.args.count c.loop-place.place in
    let p = err_from_is_err_and c.from_residual-in_err-event.result c.from_residual-in_err-event.ensures.1 in
    let first = rw (c.deref.ensures.value, c.least_kind-least.ensures, c.most_kind-most.ensures) at c.in_err-event.ensures.read in
    rw (p.1, p.2) (fails (next_event_at bases) after_pair none_listed one_listed both_listed (events_at bases) (events_repeated bases) c.in_err-event.field-0.0 b c.args.count c.loop-place.place c.loop-place.reader (c.loop-place.events, c.loop-place.lists) (events_at bases (first_before c.args.version bases c.args.count) c.args.count c.args.reader.now) c.loop-place-test.true (head_fails c.in_err-event.field-0.0 bases counts (least_kind b.due b.later) b.most c.loop-place.reader first) c.loop-place.invariant.so_far)

pub returns-in_err-causes : goal.returns-in_err-causes
returns-in_err-causes c =
    let bases = c.args.bases.now in
    let counts = c.loop-place.counts.items in
    let b = before_of c.args.version counts c.loop-place.due c.args.count c.loop-place.place in
    let p = err_from_is_err_and c.from_residual-in_err-causes.result c.from_residual-in_err-causes.ensures.1 in
    let first = rw (c.deref.ensures.value, c.least_kind-least.ensures, c.most_kind-most.ensures) at c.in_ok-event.ensures.read in
    let second = rw c.deref-in-loop-place.ensures.value at c.in_err-causes.ensures in
    rw (p.1, p.2) (fails (next_event_at bases) after_pair none_listed one_listed both_listed (events_at bases) (events_repeated bases) c.in_err-causes.field-0.0 b c.args.count c.loop-place.place c.loop-place.reader (c.loop-place.events, c.loop-place.lists) (events_at bases (first_before c.args.version bases c.args.count) c.args.count c.args.reader.now) c.loop-place-test.true (causes_fail c.in_err-causes.field-0.0 bases counts (least_kind b.due b.later) b.most c.loop-place.reader c.head.new.reader c.in_ok-event.event first second) c.loop-place.invariant.so_far)

pub loop-place-preserved : goal.loop-place-preserved
loop-place-preserved c =
    let bases = c.args.bases.now in
    let counts = c.loop-place.counts.items in
    let event = c.in_ok-event.event in
    let b = before_of c.args.version counts c.loop-place.due c.args.count c.loop-place.place in
    let there = rw c.deref.ensures.value at c.in_ok-event.ensures.there in
    let numbered = rw c.deref.ensures.value at c.in_ok-event.ensures.numbered in
    let next = before_next c.args.version counts c.loop-place.due c.still_due-due.result c.args.count c.loop-place.place event c.still_due-due.ensures in
    let first = rw (c.deref.ensures.value, c.least_kind-least.ensures, c.most_kind-most.ensures) at c.in_ok-event.ensures.read in
    let second = rw c.deref-in-loop-place.ensures.value at c.in_ok-causes.ensures in
    let is = event_is bases counts (least_kind b.due b.later) b.most c.loop-place.reader c.head.new.reader c.all_causes.new.reader event c.in_ok-causes.causes first second in
    let on = goes_on (next_event_at bases) after_pair none_listed one_listed both_listed (events_at bases) (events_repeated bases) b c.args.count c.loop-place.place c.loop-place.reader (c.loop-place.events, c.loop-place.lists) (event, c.in_ok-causes.causes) c.all_causes.new.reader (events_at bases (first_before c.args.version bases c.args.count) c.args.count c.args.reader.now) c.loop-place-test.true is c.loop-place.invariant.so_far in
    record {
      alike = length-set counts event.lane (event.index + 1) ∙ c.loop-place.invariant.alike;
      small = counted-small counts (greatest_base + c.loop-place.place) (greatest_base + (c.loop-place.place + 1)) event.lane event.index (omega arith) c.loop-place.invariant.small there numbered;
      so_far = rw (c.in_ok-push.ensures.ok, c.in_ok-push-2.ensures.ok) (subst (λ (b : Before). with_front both_listed (both_listed (c.loop-place.events, c.loop-place.lists) (one_listed (event, c.in_ok-causes.causes))) (events_at bases b (c.args.count - (c.loop-place.place + 1)) c.all_causes.new.reader) ≡ events_at bases (first_before c.args.version bases c.args.count) c.args.count c.args.reader.now) next on);
    }

pub returns : goal.returns
returns c =
    let bases = c.args.bases.now in
    is_done (next_event_at bases) after_pair none_listed one_listed both_listed (events_at bases) (events_repeated bases) (before_of c.args.version c.loop-place.counts.items c.loop-place.due c.args.count c.loop-place.place) c.args.count c.loop-place.place c.loop-place.reader (c.loop-place.events, c.loop-place.lists) (events_at bases (first_before c.args.version bases c.args.count) c.args.count c.args.reader.now) c.loop-place-test.false c.loop-place.invariant.so_far
