use Rattle.std.proofs.Common.{◌≡◌, true, sym}
use Rattle.rex_process.specs.Keeping.{IsAppend}
use Rattle.rex_process.proofs.Keeping.{leads_join}
use Rattle.rex_serve.proofs.Broken.{broken_at, on_err}
use Rattle.rex_serve.proofs.Counting.{counts_join}
use Rattle.rex_serve.proofs.Grown.{grows_more, same_join}
use Rattle.rex_serve.proofs.serving.answer_all.Goals as goal

pub loop-alloc-preserved : goal.loop-alloc-preserved
loop-alloc-preserved g c =
    let up : c.loop-alloc.process.node.up ≡ true = cc in
    record {
      served = grows_more g.K.Keeper.records g.K.Keeper.faults c.args.process.now c.loop-alloc.process c.answer.new.process c.args.bytes.now c.loop-alloc.left.now c.in-Whole.rest.now c.in-Whole.frame.now
          c.args.out.now.items c.loop-alloc.out.items c.answer.new.out.items c.loop-alloc.invariant.served (sym c.in-Whole.ensures) up c.in_ok-answer-in-Whole.ensures.answers;
      process = c.in_ok-answer-in-Whole.ensures.process;
      same = same_join c.args.process.now c.loop-alloc.process c.answer.new.process c.loop-alloc.invariant.same c.in_ok-answer-in-Whole.ensures.same;
      counts = counts_join g.K.Keeper.faults c.args.process.now c.loop-alloc.process c.answer.new.process c.loop-alloc.invariant.counts c.in_ok-answer-in-Whole.ensures.counts;
      appends = leads_join (IsAppend g.K.Keeper.append_gives) c.args.process.now.node.keeper c.loop-alloc.process.node.keeper c.answer.new.process.node.keeper c.loop-alloc.invariant.appends c.answer.ensures.appends;
    }

pub returns-in_err-answer-in-Whole-clause-broken : goal.returns-in_err-answer-in-Whole-clause-broken
returns-in_err-answer-in-Whole-clause-broken g c =
    let up : c.loop-alloc.process.node.up ≡ true = cc in
    on_err c.from_residual.result _ (broken_at g.K.Keeper.records g.K.Keeper.faults c.args.process.now c.loop-alloc.process c.answer.new.process c.args.bytes.now c.loop-alloc.left.now c.in-Whole.rest.now c.in-Whole.frame.now
    c.args.out.now.items c.loop-alloc.out.items c.loop-alloc.invariant.served (sym c.in-Whole.ensures) up c.in_err-answer-in-Whole.ensures.left c.in_err-answer-in-Whole.ensures.same)

pub returns-in_err-answer-in-Whole-clause-appends : goal.returns-in_err-answer-in-Whole-clause-appends
returns-in_err-answer-in-Whole-clause-appends g c =
    leads_join (IsAppend g.K.Keeper.append_gives) c.args.process.now.node.keeper c.loop-alloc.process.node.keeper c.answer.new.process.node.keeper c.loop-alloc.invariant.appends c.answer.ensures.appends
