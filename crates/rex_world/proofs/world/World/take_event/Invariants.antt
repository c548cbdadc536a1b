use Rattle.rex_world.proofs.world.World.take_event.Given as goal

-- the past of the call is what is agreed on
abbrev pub ghosts-take_event_at : goal.ghosts-take_event_at
ghosts-take_event_at g a = record { past = a._agreed.now }
