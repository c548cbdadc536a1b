use Rattle.std.proofs.Common.{rules, Ok, ◌≡◌, ◌<◌, sym, subst, ap, ◌∙◌, length}
use Rattle.std.specs.Prelude.{◌&&◌, not}
use Rattle.std.proofs.lemmas.Result.{err_from_is_err_and}
use Rattle.rex_wire.specs.Decoding.{Fails}
use Rattle.rex_wire.proofs.Repeated.{goes_on, fails, is_done}
use Rattle.rex_delta.specs.Reading.{least_kind, first_before, next_event_at, events_at}
use Rattle.rex_delta.specs.Parts.{all_causes_at, passed}
use Rattle.rex_delta.proofs.Lists.{before_of, before_next, after_pair, head_fails, causes_fail, event_is}
use Rattle.rex_delta.proofs.Looking.{was_seen, seen_fails}
use Rattle.rex_delta.proofs.Passing.{no_one, neither, was_read, passed_fails, pass_events_in, events_pass}
use Rattle.rex_delta.proofs.pass_events.pass_events.Goals as goal

pub returns-in_err-seen-clause-read : goal.returns-in_err-seen-clause-read
returns-in_err-seen-clause-read c =
    let bases = c.args.bases.now in
    let counts = c.loop-place.counts.items in
    let b = before_of c.args.version counts c.loop-place.due c.args.count c.loop-place.place in
    let p = err_from_is_err_and c.from_residual.result c.from_residual.ensures.1 in
    let least = least_kind b.due b.later in
    let looked = rw (c.as_slice.ensures.value, c.least_kind-least.ensures, c.most_kind-most.ensures) at c.in_err-seen.ensures.read in
    let first = seen_fails c.in_err-seen.field-0.0 counts least b.most c.loop-place.reader looked in
    rw (p.1, p.2) (fails (next_event_at bases) after_pair tt no_one neither (pass_events_in bases) (events_pass bases) c.in_err-seen.field-0.0 b c.args.count c.loop-place.place c.loop-place.reader tt (passed (events_at bases (first_before c.args.version bases c.args.count) c.args.count c.args.reader.now)) c.loop-place-test.true (head_fails c.in_err-seen.field-0.0 bases counts least b.most c.loop-place.reader first) c.loop-place.invariant.so_far)

pub returns-in_err-pass_all_causes-clause-read : goal.returns-in_err-pass_all_causes-clause-read
returns-in_err-pass_all_causes-clause-read c =
    let bases = c.args.bases.now in
    let counts = c.loop-place.counts.items in
    let b = before_of c.args.version counts c.loop-place.due c.args.count c.loop-place.place in
    let p = err_from_is_err_and c.from_residual-in_err-pass_all_causes.result c.from_residual-in_err-pass_all_causes.ensures.1 in
    let e = c.in_err-pass_all_causes.field-0.0 in
    let least = least_kind b.due b.later in
    let looked = rw (c.as_slice.ensures.value, c.least_kind-least.ensures, c.most_kind-most.ensures) at c.in_ok-seen.ensures.read in
    let was = was_seen counts least b.most c.loop-place.reader c.pass_head.new.reader c.in_ok-seen.seen looked in
    let second = subst (λ lane. Fails e (passed (all_causes_at bases counts lane c.pass_head.new.reader))) (sym was.lane_is) (rw c.as_slice-in-loop-place.ensures.value at c.in_err-pass_all_causes.ensures.read) in
    rw (p.1, p.2) (fails (next_event_at bases) after_pair tt no_one neither (pass_events_in bases) (events_pass bases) e b c.args.count c.loop-place.place c.loop-place.reader tt (passed (events_at bases (first_before c.args.version bases c.args.count) c.args.count c.args.reader.now)) c.loop-place-test.true (causes_fail e bases counts least b.most c.loop-place.reader c.pass_head.new.reader was.event was.is (passed_fails e (all_causes_at bases counts was.event.lane c.pass_head.new.reader) second)) c.loop-place.invariant.so_far)

pub loop-place-preserved : goal.loop-place-preserved
loop-place-preserved c =
    let bases = c.args.bases.now in
    let counts = c.loop-place.counts.items in
    let b = before_of c.args.version counts c.loop-place.due c.args.count c.loop-place.place in
    let least = least_kind b.due b.later in
    let seen = c.in_ok-seen.seen in
    let looked = rw (c.as_slice.ensures.value, c.least_kind-least.ensures, c.most_kind-most.ensures) at c.in_ok-seen.ensures.read in
    let was = was_seen counts least b.most c.loop-place.reader c.pass_head.new.reader seen looked in
    let event = was.event in
    let there = subst (λ lane. lane < length counts) (sym was.lane_is) (rw c.as_slice.ensures.value at c.in_ok-seen.ensures.there) in
    let due = c.is_due_after-due.ensures ∙ ap (λ b. c.loop-place.due && not b) was.counting_is in
    let next = before_next c.args.version counts c.loop-place.due c.is_due_after-due.result c.args.count c.loop-place.place event due in
    let second = subst (λ lane. passed (all_causes_at bases counts lane c.pass_head.new.reader) ≡ Ok (tt, c.pass_all_causes.new.reader)) (sym was.lane_is) (rw c.as_slice-in-loop-place.ensures.value at c.in_ok-pass_all_causes.ensures.read) in
    let causes = was_read (all_causes_at bases counts event.lane c.pass_head.new.reader) c.pass_all_causes.new.reader second in
    let is = event_is bases counts least b.most c.loop-place.reader c.pass_head.new.reader c.pass_all_causes.new.reader event causes.value was.is causes.is in
    let on = goes_on (next_event_at bases) after_pair tt no_one neither (pass_events_in bases) (events_pass bases) b c.args.count c.loop-place.place c.loop-place.reader tt (event, causes.value) c.pass_all_causes.new.reader (passed (events_at bases (first_before c.args.version bases c.args.count) c.args.count c.args.reader.now)) c.loop-place-test.true is c.loop-place.invariant.so_far in
    search rules

pub returns-clause-read : goal.returns-clause-read
returns-clause-read c =
    let bases = c.args.bases.now in
    is_done (next_event_at bases) after_pair tt no_one neither (pass_events_in bases) (events_pass bases) (before_of c.args.version c.loop-place.counts.items c.loop-place.due c.args.count c.loop-place.place) c.args.count c.loop-place.place c.loop-place.reader tt (passed (events_at bases (first_before c.args.version bases c.args.count) c.args.count c.args.reader.now)) c.loop-place-test.false c.loop-place.invariant.so_far
