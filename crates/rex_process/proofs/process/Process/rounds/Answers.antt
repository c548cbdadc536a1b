use Rattle.std.proofs.Common.{arith, ◌≤◌, ap, ◌∙◌, subst, length}
use Rattle.rex_cluster.specs.Node.{is_active}
use Rattle.rex_process.specs.Going.{HasRound}
use Rattle.rex_process.specs.Process.{here}
use Rattle.rex_process.proofs.Going.{live_few, still_same}
use Rattle.rex_process.proofs.Rounds.{none_turned, round_then, still_then, stopped}
use Rattle.rex_process.proofs.process.Process.rounds.Goals as goal

pub loop-made-init : goal.loop-made-init
loop-made-init g c = record {
  turned = none_turned g.K.Keeper.records g.K.Keeper.faults c.args.self.now;
  still = still_same g.K.Keeper.records g.K.Keeper.faults c.args.self.now c.requires.process c.requires.up;
}

pub round-requires-clause-process : goal.round-requires-clause-process
round-requires-clause-process g c = c.loop-made.invariant.still.process

pub round-requires-clause-up : goal.round-requires-clause-up
round-requires-clause-up g c = c.loop-made.invariant.still.up

pub round-requires-clause-active : goal.round-requires-clause-active
round-requires-clause-active g c = ap is_active c.loop-made.invariant.still.role ∙ c.requires.active

pub returns-in_err-made-clause-still : goal.returns-in_err-made-clause-still
returns-in_err-made-clause-still g c =
    still_then g.K.Keeper.records g.K.Keeper.faults c.args.self.now c.loop-made.self c.round.new.self c.loop-made.invariant.still c.in_err-made.ensures.still

pub returns-in-0-clause-stopped : goal.returns-in-0-clause-stopped
returns-in-0-clause-stopped g c =
    stopped g.K.Keeper.records g.K.Keeper.faults c.args.self.now c.loop-made.self c.round.new.self c.loop-made.events c.loop-made.invariant.still c.loop-made.invariant.turned
    (subst (HasRound g.K.Keeper.records c.loop-made.self c.round.new.self c.loop-made.self.service.lanes) c.in-0.is c.in_ok-made.ensures.round)

pub returns-in-0-clause-still : goal.returns-in-0-clause-still
returns-in-0-clause-still g c =
    still_then g.K.Keeper.records g.K.Keeper.faults c.args.self.now c.loop-made.self c.round.new.self c.loop-made.invariant.still c.in_ok-made.ensures.still

pub overflow_add-events : goal.overflow_add-events
overflow_add-events g c =
    let few : length (here g.K.Keeper.records c.round.new.self).work.live ≤ 4096 =
    live_few g.K.Keeper.records g.K.Keeper.faults c.round.new.self c.in_ok-made.ensures.still.process c.in_ok-made.ensures.still.up in
    omega (arith, few, c.loop-made.invariant.turned.made, c.in_ok-made.ensures.round.turned.made)

pub loop-made-smaller : goal.loop-made-smaller
loop-made-smaller g c =
    let few : length (here g.K.Keeper.records c.round.new.self).work.live ≤ 4096 =
    live_few g.K.Keeper.records g.K.Keeper.faults c.round.new.self c.in_ok-made.ensures.still.process c.in_ok-made.ensures.still.up in
    omega (arith, few, c.in_ok-made.ensures.round.turned.made)

pub loop-made-preserved : goal.loop-made-preserved
loop-made-preserved g c = record {
  turned =
      round_then g.K.Keeper.records g.K.Keeper.faults c.args.self.now c.loop-made.self c.round.new.self c.loop-made.events c.loop-made.self.service.lanes c.in_ok-made.made
      c.loop-made.invariant.still c.loop-made.invariant.turned c.in_ok-made.ensures.round;
  still = still_then g.K.Keeper.records g.K.Keeper.faults c.args.self.now c.loop-made.self c.round.new.self c.loop-made.invariant.still c.in_ok-made.ensures.still;
}
