use Rattle.std.proofs.Common.{◌≤◌, ◌+◌, ℕ, [], ap, ◌∙◌}
use Rattle.std.proofs.lemmas.Result.{err_from_is_err_and}
use Rattle.std.proofs.lemmas.List.{length_push}
use Rattle.std.proofs.lemmas.List.Elements.{All-push}
use Rattle.rex_wire.proofs.Repeated.{goes_on, fails, is_done}
use Rattle.rex_wire.proofs.Lists.{same, alone, joined}
use Rattle.rex_delta.specs.Spelling.{greatest_base}
use Rattle.rex_delta.specs.Reading.{bases_at}
use Rattle.rex_delta.proofs.Lists.{base_at, bases_in, bases_repeated}
use Rattle.rex_delta.proofs.pass_events.few_bases.Goals as goal

pub returns-in_err-base-clause-read : goal.returns-in_err-base-clause-read
returns-in_err-base-clause-read c =
    let p = err_from_is_err_and c.from_residual.result c.from_residual.ensures.1 in
    rw (p.1, p.2) (fails base_at same [] alone joined bases_in bases_repeated c.in_err-base.field-0.0 tt c.args.lanes c.loop.counter c.loop.reader c.loop.bases.items (bases_at c.args.lanes c.args.reader.now) c.loop-test.true c.in_err-base.ensures.read c.loop.invariant.so_far)

pub loop-preserved : goal.loop-preserved
loop-preserved c =
    rw c.push.ensures.items (record {
      long = length_push c.loop.bases.items c.in_ok-base.base ∙ ap (λ (n : ℕ). n + 1) c.loop.invariant.long;
      small = All-push (λ base. base ≤ greatest_base) c.loop.bases.items c.in_ok-base.base c.loop.invariant.small c.in_ok-base.ensures.most;
      so_far = goes_on base_at same [] alone joined bases_in bases_repeated tt c.args.lanes c.loop.counter c.loop.reader c.loop.bases.items c.in_ok-base.base c.u32_at_most.new.reader (bases_at c.args.lanes c.args.reader.now) c.loop-test.true c.in_ok-base.ensures.read c.loop.invariant.so_far;
    })

pub returns-clause-read : goal.returns-clause-read
returns-clause-read c =
    is_done base_at same [] alone joined bases_in bases_repeated tt c.args.lanes c.loop.counter c.loop.reader c.loop.bases.items (bases_at c.args.lanes c.args.reader.now) c.loop-test.false c.loop.invariant.so_far
