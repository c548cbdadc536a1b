use Rattle.rex_words.specs.Histories.{IsFirstOf}
use Rattle.rex_words.proofs.merge.first_list.Given as goal

abbrev pub invariant-loop-index : goal.invariant-loop-index
invariant-loop-index l = IsFirstOf l.lists l.places l.index l.first
