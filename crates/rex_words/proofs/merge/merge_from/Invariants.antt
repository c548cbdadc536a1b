use Rattle.rex_words.specs.Histories.{IsMerging, left_in}
use Rattle.rex_words.proofs.merge.merge_from.Given as goal

abbrev pub invariant-loop-first : goal.invariant-loop-first
invariant-loop-first l = IsMerging l.lists l.places l.events.items

abbrev pub decreases-loop-first : goal.decreases-loop-first
decreases-loop-first l = left_in l.lists l.places
