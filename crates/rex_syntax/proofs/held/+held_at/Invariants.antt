use Rattle.rex_syntax.proofs.held.+held_at.Given as goal

abbrev pub decreases-held_at : goal.decreases-held_at
decreases-held_at l = l.place
