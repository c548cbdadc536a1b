use Rattle.rex_world.proofs.Common.{refl, subst}
use Rattle.rex_world.specs.Finding.{IsFound}
use Rattle.rex_world.proofs.Handed.{missed}
use Rattle.rex_world.proofs.world.World.deliver.Goals as goal

pub returns-in_ok-push-in-None : goal.returns-in_ok-push-in-None
returns-in_ok-push-in-None g c = record {
  comes =
      missed _ c.requires.running (subst (IsFound c.args.self.now.net c.args.number) c.in-None.is c.in_ok-message.ensures)
      c.in_ok-push-in-None.ensures.items refl;
}
