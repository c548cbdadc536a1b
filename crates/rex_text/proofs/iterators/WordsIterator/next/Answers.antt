use Rattle.std.proofs.Common.{sym, ◌∙◌}
use Rattle.rex_text.specs.Text.{is_blank}
use Rattle.rex_text.proofs.Splits.{ends_words, steps_words}
use Rattle.rex_text.proofs.iterators.WordsIterator.next.Goals as goal

pub returns-then-is_empty-clause-steps : goal.returns-then-is_empty-clause-steps
returns-then-is_empty-clause-steps c =
    ends_words is_blank c.args.self.now.rest.now c.word_start-start.result c.word_start-start.ensures.place c.word_start-start.ensures.within (sym c.is_empty.ensures ∙ c.if-is_empty.true)

pub returns-clause-steps : goal.returns-clause-steps
returns-clause-steps c =
    steps_words is_blank c.args.self.now.rest.now c.word_start-start.result c.word_end-end.result c.word_start-start.ensures.place c.word_start-start.ensures.within
    (sym c.is_empty.ensures ∙ c.if-is_empty.false) c.word_end-end.ensures.place c.word_end-end.ensures.within
