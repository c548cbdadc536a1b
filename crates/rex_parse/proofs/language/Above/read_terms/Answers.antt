use Rattle.std.proofs.Common.{rules, []}
use Rattle.std.specs.Borrow.{Bor}
use Rattle.rex_text.specs.Text.{Word}
use Rattle.rex_parse.proofs.Terms.{terms_done, terms_step, rest_step}
use Rattle.rex_parse.proofs.language.Above.read_terms.Goals as goal

pub loop-rest-preserved : goal.loop-rest-preserved
loop-rest-preserved c =
    let d : Bor Word = record { ref_ptr = (0, 0); now = [] } in
    record {
      code = rest_step c.args.self.now c.loop-rest.rest.now d c.loop-rest.code c.least-pair.result c.least-code.result _ c.in-len2-up.len_at_least
          (search rules) c.least-code.ensures c.loop-rest.invariant.code;
      terms = terms_step c.args.self.now c.loop-rest.rest.now d c.loop-rest.terms c.push.new.self _ c.read_operator-operator.result.operator c.read_operand-operand.result.operand c.in-len2-up.len_at_least
          (search rules) c.read_operand-operand.ensures.operand c.in_ok-push.ensures.ok c.loop-rest.invariant.terms;
    }

pub returns-clause-terms : goal.returns-clause-terms
returns-clause-terms c = terms_done c.args.self.now c.loop-rest.rest.now c.loop-rest.terms _ c.in_default.len_below c.loop-rest.invariant.terms
