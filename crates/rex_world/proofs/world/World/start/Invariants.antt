use Rattle.rex_world.proofs.world.World.start.Given as goal

-- the past of the call is what is agreed on
abbrev pub ghosts-start_at : goal.ghosts-start_at
ghosts-start_at g a = record { past = a._agreed.now }
