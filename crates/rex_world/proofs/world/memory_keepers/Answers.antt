use Rattle.rex_world.proofs.Common.{ap, memory_value}
use Rattle.rex_world.proofs.Beginning.{fresh_next}
use Rattle.rex_world.proofs.world.memory_keepers.Goals as goal

pub loop-preserved : goal.loop-preserved
loop-preserved c = fresh_next c.loop.invariant (ap memory_value c.new.ensures.value) c.in_ok-push.ensures.items
