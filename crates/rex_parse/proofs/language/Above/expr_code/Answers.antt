use Rattle.std.proofs.Common.{rules, []}
use Rattle.std.specs.Borrow.{Bor}
use Rattle.rex_text.specs.Text.{Word}
use Rattle.rex_parse.proofs.Weighing.{expr_step}
use Rattle.rex_parse.proofs.language.Above.expr_code.Goals as goal

pub loop-rest-preserved : goal.loop-rest-preserved
loop-rest-preserved c =
    let d : Bor Word = record { ref_ptr = (0, 0); now = [] } in
    expr_step c.args.self.now c.loop-rest.rest.now d c.loop-rest.code c.least-pair.result c.least-code.result _ c.in-len2-up.len_at_least
    (search rules) c.least-code.ensures c.loop-rest.invariant
