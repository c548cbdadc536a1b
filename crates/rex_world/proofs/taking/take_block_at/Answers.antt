use Rattle.std.proofs.Common.{rules}
use Rattle.rex_world.proofs.Blocks.{block_handed}
use Rattle.rex_world.proofs.taking.take_block_at.Goals as goal

pub returns : goal.returns
returns g c = record {
  handed = block_handed _ _ _ _ _ c.take_block.ensures.keeper _ c.take_block.ensures.refused c.take_block.ensures.node c.take_block.ensures.same;
  stays = search rules;
}
