use Rattle.std.proofs.Common.{arith, ◌≡◌, ◌<◌, ◌≤◌, ℕ, ap, sym, ◌∙◌, subst}
use Rattle.rex_syntax.specs.declared.service.Declarations.{Declarations}
use Rattle.rex_cluster.specs.Node.{is_active}
use Rattle.rex_process.specs.Going.{HasRound}
use Rattle.rex_process.specs.Process.{ProcessValue}
use Rattle.rex_process.proofs.Going.{still_same}
use Rattle.rex_process.proofs.Rounds.{more_round, none_round, still_then}
use Rattle.rex_process.proofs.process.Process.round.Goals as goal

pub loop-lane-init : goal.loop-lane-init
loop-lane-init g c = record {
  lanes = ap (λ (s : Declarations). s.lanes) c.declarations.ensures.whole ∙ ap (λ (p : ProcessValue _). p.service.lanes) c.self.view_is;
  few = omega arith;
  round = none_round g.K.Keeper.records g.K.Keeper.faults c.args.self.now;
  still = still_same g.K.Keeper.records g.K.Keeper.faults c.args.self.now c.requires.process c.requires.up;
}

pub made_by-requires-clause-process : goal.made_by-requires-clause-process
made_by-requires-clause-process g c = c.loop-lane.invariant.still.process

pub made_by-requires-clause-up : goal.made_by-requires-clause-up
made_by-requires-clause-up g c = c.loop-lane.invariant.still.up

pub made_by-requires-clause-active : goal.made_by-requires-clause-active
made_by-requires-clause-active g c = ap is_active c.loop-lane.invariant.still.role ∙ c.requires.active

pub made_by-requires-clause-lane : goal.made_by-requires-clause-lane
made_by-requires-clause-lane g c =
    subst (λ (lanes : ℕ). c.loop-lane.lane < lanes) (c.loop-lane.invariant.lanes ∙ ap (λ (s : Declarations). s.lanes) (sym c.loop-lane.invariant.still.same.service)) c.loop-lane-test.true

pub returns-in_err-made-clause-still : goal.returns-in_err-made-clause-still
returns-in_err-made-clause-still g c =
    still_then g.K.Keeper.records g.K.Keeper.faults c.args.self.now c.loop-lane.self c.made_by.new.self c.loop-lane.invariant.still c.in_err-made.ensures.still

pub overflow_add-made : goal.overflow_add-made
overflow_add-made g c = let few : c.in_ok-made.field-0 ≤ 1 = c.in_ok-made.ensures.made.few in omega arith

pub loop-lane-preserved : goal.loop-lane-preserved
loop-lane-preserved g c = record {
  lanes = c.loop-lane.invariant.lanes;
  few = let few : c.in_ok-made.field-0 ≤ 1 = c.in_ok-made.ensures.made.few in omega arith;
  round =
      more_round g.K.Keeper.records g.K.Keeper.faults c.args.self.now c.loop-lane.self c.made_by.new.self c.loop-lane.lane c.loop-lane.made c.in_ok-made.field-0
      (subst (λ (lanes : ℕ). c.loop-lane.lane < lanes) c.loop-lane.invariant.lanes c.loop-lane-test.true) c.loop-lane.invariant.still c.loop-lane.invariant.round c.in_ok-made.ensures.made;
  still = still_then g.K.Keeper.records g.K.Keeper.faults c.args.self.now c.loop-lane.self c.made_by.new.self c.loop-lane.invariant.still c.in_ok-made.ensures.still;
}

pub returns-clause-round : goal.returns-clause-round
returns-clause-round g c =
    let all : c.loop-lane.lane ≡ c.args.self.now.service.lanes = omega arith in
    subst (λ (lanes : ℕ). HasRound g.K.Keeper.records c.args.self.now c.loop-lane.self lanes c.loop-lane.made) all c.loop-lane.invariant.round

pub returns-clause-still : goal.returns-clause-still
returns-clause-still g c = c.loop-lane.invariant.still
