use Rattle.std.proofs.Common.{arith}
use Rattle.rex_crew.proofs.Working.{starts_working, works_on, waits_on, does_more}
use Rattle.rex_crew.proofs.crew.Crew.work_on.Goals as goal

pub loop-blocked-init : goal.loop-blocked-init
loop-blocked-init g c = starts_working _ _ _ c.requires.seats

pub loop-blocked-preserved-then-turn : goal.loop-blocked-preserved-then-turn
loop-blocked-preserved-then-turn g c = works_on _ _ _ _ _ _ _ _ c.loop-blocked.invariant c.go_round-turn.ensures.round

pub loop-blocked-preserved : goal.loop-blocked-preserved
loop-blocked-preserved g c = waits_on _ _ _ _ _ _ _ _ c.loop-blocked.invariant c.go_round-turn.ensures.round

pub loop-blocked-smaller-then-turn : goal.loop-blocked-smaller-then-turn
loop-blocked-smaller-then-turn g c =
    let round = c.go_round-turn.ensures.round in
    does_more _ _ _ c.go_round-turn.auto.seats (round.more c.if-turn.true) (works_on _ _ _ _ _ _ _ _ c.loop-blocked.invariant round).room (omega (arith, c.loop-blocked-test.true))
