use Rattle.rex_world.proofs.world.World.call.Given as goal

-- the past of the call is what is agreed on
abbrev pub ghosts-serve : goal.ghosts-serve
ghosts-serve g a = record { past = a._past.now }
