use Rattle.rex_crew.proofs.RoundKeeps.{blocked_turn}
use Rattle.rex_crew.proofs.rounds.take_turn.Goals as goal

pub returns-in-Blocked : goal.returns-in-Blocked
returns-in-Blocked g c = blocked_turn _ _ _ _ _ c.loop-me.invariant _ _ _ c.in-Blocked.ensures.seat c.in-Blocked.ensures.later c.in-Blocked.ensures.turn
