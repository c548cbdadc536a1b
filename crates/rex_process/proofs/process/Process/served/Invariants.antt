use Rattle.rex_process.proofs.process.Process.served.Given as goal

-- all that the node knows
abbrev pub ghosts-serve : goal.ghosts-serve
ghosts-serve g a = record { past = a.node.now.known }
