use Rattle.std.proofs.Common.{◌+◌, sym, subst}
use Rattle.rex_words.specs.Dealing.{AreDealt}
use Rattle.rex_words.proofs.Dealt.{dealt_more}
use Rattle.rex_words.proofs.start.deal_all.Goals as goal

pub loop-lane-preserved : goal.loop-lane-preserved
loop-lane-preserved c = record {
  hosting = c.in_ok-seat.ensures.hosting.0;
  lane = c.in_ok-seat.ensures.hosting.1;
  dealt = subst (AreDealt c.args.words.now.key c.args.words.now.table_id (c.loop-lane.lane + 1)) (sym c.in_ok-push.ensures.items)
      (dealt_more _ _ _ _ _ c.loop-lane.invariant.dealt c.in_ok-seat.ensures.seat);
}
