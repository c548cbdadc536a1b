use Rattle.std.proofs.Common.{rules, []}
use Rattle.std.specs.Borrow.{Bor}
use Rattle.rex_text.specs.Text.{Word}
use Rattle.rex_parse.proofs.Terms.{no_words, short_code}
use Rattle.rex_parse.proofs.language.Above.read_short_expr.Goals as goal

pub returns-in_default-clause-code : goal.returns-in_default-clause-code
returns-in_default-clause-code c = no_words c.args.self.now c.args.words.now c.in_default.len_below

pub returns-clause-code : goal.returns-clause-code
returns-clause-code c =
    let d : Bor Word = record { ref_ptr = (0, 0); now = [] } in
    short_code c.args.self.now c.args.words.now d c.least.result c.in-len1-up.len_at_least c.requires.short (search rules)
