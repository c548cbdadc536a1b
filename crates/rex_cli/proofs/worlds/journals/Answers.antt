use Rattle.rex_world.proofs.Beginning.{fresh_next}
use Rattle.rex_cli.proofs.worlds.journals.Goals as goal

pub loop-preserved : goal.loop-preserved
loop-preserved c = fresh_next c.loop.invariant c.in_ok-keeper.ensures.fresh c.in_ok-push.ensures.items
