use Rattle.std.proofs.Common.{rules, ◌≡◌, ◌∙◌, sym, None}
use Rattle.rex_parse.specs.Answers.{texts}
use Rattle.rex_parse.proofs.Values.{reply_value}
use Rattle.rex_parse.proofs.language.Above.reply_line.Goals as goal

pub returns-clause-takes : goal.returns-clause-takes
returns-clause-takes c =
    let fine = sym c.in_default.ensures in
    let none : c.in_ok-code.field-0.code ≡ None = c.in_ok-code.ensures.code ∙ reply_value c.args.self.now (texts c.args.words.now) fine in
    let same = sym c.in_ok-code.expr-is ∙ c.in_ok-code.ensures.expr none in
    (fine, search rules)
