use Rattle.std.proofs.Common.{arith}
use Rattle.rex_board.proofs.Reading.{reads}
use Rattle.rex_crew.proofs.RoundKeeps.{one_more, whole_round}
use Rattle.rex_crew.proofs.rounds.go_round.Goals as goal

pub take_turn-turn-requires-clause-seat : goal.take_turn-turn-requires-clause-seat
take_turn-turn-requires-clause-seat g c = c.loop-me.invariant.seats c.loop-me.me-index _ (reads c.loop-me.seats c.loop-me.me-index c.me-item.result (omega (arith, c.loop-me-test.true, c.loop-me.auto.seats)))

pub loop-me-preserved : goal.loop-me-preserved
loop-me-preserved g c = one_more _ _ _ _ _ _ _ _ _ _ _ c.loop-me.invariant (reads c.loop-me.seats c.loop-me.me-index c.me-item.result (omega (arith, c.loop-me-test.true, c.loop-me.auto.seats))) c.take_turn-turn.ensures

pub returns-clause-round : goal.returns-clause-round
returns-clause-round g c = whole_round _ _ _ _ _ _ _ (omega (arith, c.loop-me-test.false, c.loop-me.auto.seats)) c.loop-me.invariant

pub returns-clause-few : goal.returns-clause-few
returns-clause-few g c = omega (arith, c.loop-me.invariant.few, c.loop-me.auto.me-index-end, c.loop-me.auto.seats)
