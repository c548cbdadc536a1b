use Rattle.rex_world.proofs.world.World.read.Given as goal

-- the past of the call is what is agreed on
abbrev pub ghosts-read_at : goal.ghosts-read_at
ghosts-read_at g a = record { past = a._agreed.now }
