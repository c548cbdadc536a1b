use Rattle.std.proofs.Common.{length}
use Rattle.rex_words.specs.Dealing.{HasValueWords}
use Rattle.rex_words.proofs.start.push_values.Given as goal

abbrev pub invariant-loop-variable : goal.invariant-loop-variable
invariant-loop-variable l = HasValueWords l.values (length l.initial.words.items) l.variable l.words.items
