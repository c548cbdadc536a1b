use Rattle.std.proofs.Common.{[]}
use Rattle.std.specs.Borrow.{Bor}
use Rattle.rex_text.specs.Text.{Word}
use Rattle.rex_parse.proofs.Weighing.{heading_step}
use Rattle.rex_parse.proofs.language.Above.heading_code.Goals as goal

pub loop-i-preserved : goal.loop-i-preserved
loop-i-preserved c =
    let d : Bor Word = record { ref_ptr = (0, 0); now = [] } in
    heading_step c.args.self.now c.args.words.now c.loop-i.i d c.loop-i.code c.parameter_code.result c.least-code.result _ c.loop-i-test.true
    c.parameter_code.ensures c.least-code.ensures c.loop-i.invariant
