use Rattle.rex_world.proofs.Common.{refl}
use Rattle.rex_world.proofs.Beginning.{new_first}
use Rattle.rex_world.proofs.world.World.with_keepers.Goals as goal

pub returns : goal.returns
returns g c =
    new_first c.requires.fits c.declarations-service.ensures.sound c.declarations-service.ensures.checked c.in_ok-requests.ensures refl c.in_ok-nodes.ensures
    c.new.ensures c.new-2.ensures c.new-3.ensures.items c.in_ok-seen.ensures refl refl refl
