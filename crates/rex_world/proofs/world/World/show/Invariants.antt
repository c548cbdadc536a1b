use Rattle.rex_world.proofs.world.World.show.Given as goal

-- the past of the call is what is agreed on
abbrev pub ghosts-show : goal.ghosts-show
ghosts-show g a = record { past = a._agreed.now }
