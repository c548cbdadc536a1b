use Rattle.rex_words.specs.Dealing.{AreZeros}
use Rattle.rex_words.proofs.start.lock_words.Given as goal

abbrev pub invariant-loop-lock : goal.invariant-loop-lock
invariant-loop-lock l = AreZeros l._lock l.words.items
