use Rattle.std.proofs.Common.{◌≡◌, length}
use Rattle.rex_parse.specs.Words.{least}
use Rattle.rex_parse.specs.Table.{expr_code}
use Rattle.rex_parse.specs.Answers.{texts}
use Rattle.rex_parse.proofs.language.Above.expr_code.Given as goal

abbrev pub invariant-loop-rest : goal.invariant-loop-rest
invariant-loop-rest l = least l.code (expr_code l.self (texts l.rest)) ≡ expr_code l.self (texts l.words)

abbrev pub decreases-loop-rest : goal.decreases-loop-rest
decreases-loop-rest l = length l.rest
