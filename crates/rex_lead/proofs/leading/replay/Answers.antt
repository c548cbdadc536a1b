use Rattle.std.proofs.Common.{◌+◌, ◌∷◌, [], sym, arith}
use Rattle.rex_schedule.specs.declared.scenario.ScheduleLine.TheVariants.{Replay}
use Rattle.rex_cluster.specs.Takes.Doing.{Does}
use Rattle.rex_steady.specs.Schedule.{replays}
use Rattle.rex_lead.proofs.Doings.{did_as, did_both, replays_next}
use Rattle.rex_lead.proofs.leading.replay.Goals as goal

pub loop-others-preserved : goal.loop-others-preserved
loop-others-preserved g c = record {
  did =
      did_as c.args.svc.now c.args.world.now c.do_line.new.world _ _ (sym (replays_next c.loop-others.others c.loop-others.auto.others))
      (did_both c.args.svc.now c.args.world.now c.loop-others.world c.do_line.new.world (replays c.loop-others.others) (Does (Replay (c.loop-others.others + 1)) ∷ []) c.loop-others.invariant.did c.in_ok-do_line.ensures.did);
  done = omega (arith, c.in_ok-do_line.ensures.done, c.loop-others.invariant.done);
}
