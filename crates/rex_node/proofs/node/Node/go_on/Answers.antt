use Rattle.rex_node.proofs.Written.{on_err}
use Rattle.rex_node.proofs.Turns.{gone_again, gone_done, gone_none, gone_stuck, round_as}
use Rattle.rex_node.proofs.node.Node.go_on.Goals as goal
use Rattle.rex_node.proofs.Common.{rules, whole}

pub returns-in_err-round : goal.returns-in_err-round
returns-in_err-round g c = record {
  ends = search rules;
  stuck = on_err _
      (gone_stuck _ _ _ _ _ c.loop-left.invariant
      c.round.new.draft c.in_err-round.ensures.same c.in_err-round.ensures.stuck);
  same = search rules;
}

pub loop-left-preserved : goal.loop-left-preserved
loop-left-preserved g c =
    gone_again _ _ _ _ _ c.loop-left.invariant
    _ c.in_ok-round.ensures.same
    (round_as _ _ _ _ _ _ (whole g.P.Past.past c.loop-left.self) _ c.loop-left.draft c.round.new.draft c.in-Again.is c.in_ok-round.ensures.goes)

pub returns-in-Done : goal.returns-in-Done
returns-in-Done g c = record {
  ends = gone_done _ _ _ _ _ c.loop-left.invariant
      c.round.new.draft c.in_ok-round.ensures.same _
      (round_as _ _ _ _ _ _ (whole g.P.Past.past c.loop-left.self) _ c.loop-left.draft c.round.new.draft c.in-Done.is c.in_ok-round.ensures.goes);
  stuck = search rules;
  same = search rules;
}

pub loop-left-init : goal.loop-left-init
loop-left-init g c =
    gone_none _ g.K.Keeper.append_gives _ _ _ c.requires.may
