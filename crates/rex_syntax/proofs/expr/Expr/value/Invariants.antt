use Rattle.std.proofs.Common.{◌≡◌, take}
use Rattle.std.specs.List.{fold}
use Rattle.rex_syntax.specs.Expr.{operand_value, joined_with}
use Rattle.rex_syntax.proofs.expr.Expr.value.Given as goal

abbrev pub invariant-loop-term : goal.invariant-loop-term
invariant-loop-term l =
    l.value ≡ fold (joined_with l.locals l.variables) (operand_value l.self.first l.locals l.variables) (take l.term-index l.self.rest)
