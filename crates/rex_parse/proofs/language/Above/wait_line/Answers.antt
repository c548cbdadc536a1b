use Rattle.std.proofs.Common.{[], sym, ap, ◌∙◌, ◌≡◌, None}
use Rattle.rex_parse.proofs.PlainLines.{wait_words}
use Rattle.std.specs.Borrow.{Bor}
use Rattle.rex_text.specs.Text.{Word}
use Rattle.rex_parse.specs.Answers.{texts}
use Rattle.rex_parse.specs.Table.{whole_expr_code}
use Rattle.rex_parse.proofs.Values.{wait_value, wait_after}
use Rattle.rex_parse.proofs.language.Above.wait_line.Goals as goal

pub returns-in_default-words-clause-takes : goal.returns-in_default-words-clause-takes
returns-in_default-words-clause-takes c = absurd (wait_words c.args.self.now c.args.words.now c.in_default-words.len_below (sym c.in_default.ensures))

pub returns-in_ok-push_line-clause-takes : goal.returns-in_ok-push_line-clause-takes
returns-in_ok-push_line-clause-takes c =
    let d : Bor Word = record { ref_ptr = (0, 0); now = [] } in
    let fine = sym c.in_default.ensures in
    let rest = c.after_two.ensures in
    let none : c.in_ok-code.field-0.code ≡ None = c.in_ok-code.ensures.code ∙ ap (whole_expr_code c.args.self.now) rest ∙ wait_value c.args.self.now c.args.words.now fine in (
      fine,
      wait_after c.args.self.now c.push_line.new.self c.args.words.now d c.args.number c.condition_number-condition.result (texts c.after_two.result.now) c.in_ok-code.field-0.expr
          c.in-len2-up.len_at_least rest c.condition_number-condition.ensures (c.in_ok-code.ensures.expr none) c.in_ok-push_line.ensures.taken,
    )
