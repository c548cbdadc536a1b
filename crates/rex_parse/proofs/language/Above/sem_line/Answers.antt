use Rattle.std.proofs.Common.{sym}
use Rattle.rex_parse.proofs.Shapes.{sem_words}
use Rattle.rex_parse.proofs.language.Above.sem_line.Goals as goal

pub returns-in_default-words-clause-takes : goal.returns-in_default-words-clause-takes
returns-in_default-words-clause-takes c = absurd (sem_words c.args.self.now c.args.words.now c.in_default-words.len_below (sym c.in_default.ensures))
