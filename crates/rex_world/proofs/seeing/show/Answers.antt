use Rattle.rex_world.proofs.Shown.{one_released}
use Rattle.rex_world.proofs.seeing.show.Goals as goal

pub show_one-requires : goal.show_one-requires
show_one-requires g c = record {
  member = c.requires.member;
  clients = c.loop-effect.invariant.clients;
  releases = one_released _ c.loop-effect-test.true c.effect-item.is c.requires.releases;
}
