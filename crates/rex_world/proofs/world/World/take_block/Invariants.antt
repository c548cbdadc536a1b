use Rattle.rex_world.proofs.world.World.take_block.Given as goal

-- the past of the call is what is agreed on
abbrev pub ghosts-take_block_at : goal.ghosts-take_block_at
ghosts-take_block_at g a = record { past = a._agreed.now }
