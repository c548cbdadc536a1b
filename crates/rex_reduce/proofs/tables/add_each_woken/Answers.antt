use Rattle.std.proofs.Common.{◌≡◌, ℕ, subst, arith}
use Rattle.rex_reduce.specs.Summaries.{alone}
use Rattle.rex_reduce.specs.Tables.{AreAddedWoken}
use Rattle.rex_reduce.proofs.Steps.{woken_more}
use Rattle.rex_reduce.proofs.tables.add_each_woken.Goals as goal

pub loop-lane-preserved : goal.loop-lane-preserved
loop-lane-preserved c =
    woken_more c.args.rows.now c.loop-lane.rows c.add_at.new.rows c.args.event.now.kind (alone c.args.own.now c.args.event.now.lane) c.loop-lane.lane _ c.waker_slot.ensures c.loop-lane.invariant c.in_ok-add_at.ensures

pub returns : goal.returns
returns c =
    let end : c.loop-lane.lane ≡ 64 = omega arith in
    subst (λ (n : ℕ). AreAddedWoken c.args.rows.now c.args.event.now.kind (alone c.args.own.now c.args.event.now.lane) n c.loop-lane.rows) end c.loop-lane.invariant
