use Rattle.std.proofs.Common.{rules, [], refl}
use Rattle.std.specs.Borrow.{Bor}
use Rattle.rex_text.specs.Text.{Word}
use Rattle.rex_parse.specs.Answers.{texts}
use Rattle.rex_parse.specs.declared.language.Form.TheVariants as form
use Rattle.rex_parse.proofs.Shapes.{set_shape}
use Rattle.rex_parse.proofs.Values.{too_few, set_code_is}
use Rattle.rex_parse.proofs.language.Above.set_code.Goals as goal

pub returns-in_default : goal.returns-in_default
returns-in_default c = too_few c.args.self.now form.Set (texts c.args.words.now) (search rules) refl (set_shape c.args.words.now c.in_default.len_below)

pub returns : goal.returns
returns c =
    let d : Bor Word = record { ref_ptr = (0, 0); now = [] } in
    set_code_is c.args.self.now c.args.words.now d c.args.value_code c.least-limits.result c.least-2.result (search rules) c.in-len2-up.len_at_least (search rules) (search rules) c.requires (search rules) (search rules)
