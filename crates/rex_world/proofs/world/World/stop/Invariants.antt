use Rattle.rex_world.proofs.world.World.stop.Given as goal

-- the past of the call is what is agreed on
abbrev pub ghosts-stop_at : goal.ghosts-stop_at
ghosts-stop_at g a = record { past = a._agreed.now }
