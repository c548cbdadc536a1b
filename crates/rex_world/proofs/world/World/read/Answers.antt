use Rattle.rex_world.proofs.Common.{refl}
use Rattle.rex_world.proofs.Answering.{read_came}
use Rattle.rex_world.proofs.Placed.{here_so, member_so}
use Rattle.rex_world.proofs.world.World.read.Goals as goal

pub read_at-read-requires : goal.read_at-read-requires
read_at-read-requires g c = record { member = member_so _ c.requires.at.there _ _ c.index.ensures _ _ c.requires.at.running.members }

pub returns : goal.returns
returns g c = record {
  comes = read_came c.requires.at.running _ _ c.requires.client c.index.result.now
      (here_so _ c.requires.at.there _ _ c.index.ensures) c.index_mut.ensures.value c.read_at-read.ensures.answer c.read_at-read.ensures.seen
      refl c.read_effect.ensures c.in_ok-push.ensures.items refl;
}
