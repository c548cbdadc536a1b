use Rattle.std.proofs.Common.{◌+◌, ℕ, List, [], ap, ◌∙◌, rules}
use Rattle.std.proofs.lemmas.Result.{err_from_is_err_and}
use Rattle.std.proofs.lemmas.List.{length_push}
use Rattle.rex_wire.specs.Reading.{Reading, list_at}
use Rattle.rex_snapshot.specs.Reading.{with_last, waiter_at, into_array}
use Rattle.rex_snapshot.proofs.Repeated.{none_yet, goes_on, fails, fails_too, is_done}
use Rattle.rex_snapshot.proofs.read_queues.waiting.Goals as goal

pub loop-init : goal.loop-init
loop-init c = record { few = search rules; so_far = rw c.new-lanes.ensures (none_yet (waiter_at c.args.seats.now c.args.condition) with_last c.args.count [] c.args.reader.now) }

pub returns-in_err-lane : goal.returns-in_err-lane
returns-in_err-lane c =
    let read = waiter_at c.args.seats.now c.args.condition in
    let total = list_at read with_last c.args.count [] c.args.reader.now in
    let p = err_from_is_err_and c.from_residual.result c.from_residual.ensures.1 in
    rw (p.1, p.2) (fails_too c.in_err-lane.field-0.0 total (fails read with_last c.in_err-lane.field-0.0 c.loop.lanes.items c.args.count c.loop.counter c.loop.reader c.loop.lanes.items total c.loop-test.true (rw c.as_slice.ensures.value at c.in_err-lane.ensures) c.loop.invariant.so_far))

pub loop-preserved : goal.loop-preserved
loop-preserved c =
    let read = waiter_at c.args.seats.now c.args.condition in
    let total = list_at read with_last c.args.count [] c.args.reader.now in
    record {
      few = rw c.push.ensures.items (length_push c.loop.lanes.items c.in_ok-lane.lane ∙ ap (λ (n : ℕ). n + 1) c.loop.invariant.few);
      so_far = rw c.push.ensures.items (goes_on read with_last c.loop.lanes.items c.args.count c.loop.counter c.loop.reader c.loop.lanes.items c.in_ok-lane.lane c.waiter.new.reader total c.loop-test.true (rw c.as_slice.ensures.value at c.in_ok-lane.ensures) c.loop.invariant.so_far);
    }

pub returns : goal.returns
returns c =
    let read = waiter_at c.args.seats.now c.args.condition in
    let total = list_at read with_last c.args.count [] c.args.reader.now in
    ap (λ (r : Reading (List ℕ)). into_array r) (is_done read with_last c.loop.lanes.items c.args.count c.loop.counter c.loop.reader c.loop.lanes.items total c.loop-test.false c.loop.invariant.so_far)
