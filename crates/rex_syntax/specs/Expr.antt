use Rattle.std.specs.Prelude.{ℕ, ◌<◌, Bool, true, false, not, ℤ, pos, List, slice_index_or, int_lt, int_le, int_rem, if◌then◌else◌}
use Rattle.std.specs.Int.{w64, int_wrapping_add, int_wrapping_sub, int_wrapping_mul, int_wrapping_div}
use Rattle.std.specs.Ordering.{int_eq}
use Rattle.std.specs.List.{All, fold}
use Rattle.rex_syntax.specs.declared.expr.Operator.{Operator}
use Rattle.rex_syntax.specs.declared.expr.Operator.TheVariants.{Add, Sub, Mul, Div, Rem, Equal, NotEqual, Less, LessEqual, Greater, GreaterEqual}
use Rattle.rex_syntax.specs.declared.expr.Operand.{Operand}
use Rattle.rex_syntax.specs.declared.expr.Operand.TheVariants.{Number, Local, Variable}
use Rattle.rex_syntax.specs.declared.expr.Term.{Term}
use Rattle.rex_syntax.specs.declared.expr.Expr.{Expr}

-- 1 for true and 0 for false
abbrev pub truth_value : Bool → ℤ
truth_value true = pos 1
truth_value false = pos 0

-- two values joined by an operator
abbrev pub applied : Operator → ℤ → ℤ → ℤ
applied Add x y = int_wrapping_add w64 x y
applied Sub x y = int_wrapping_sub w64 x y
applied Mul x y = int_wrapping_mul w64 x y
applied Div x y = if int_eq y (pos 0) then pos 0 else int_wrapping_div w64 x y
applied Rem x y = if int_eq y (pos 0) then x else int_rem x y
applied Equal x y = truth_value (int_eq x y)
applied NotEqual x y = truth_value (not (int_eq x y))
applied Less x y = truth_value (int_lt x y)
applied LessEqual x y = truth_value (int_le x y)
applied Greater x y = truth_value (int_lt y x)
applied GreaterEqual x y = truth_value (int_le y x)

abbrev pub operand_value : Operand → List ℤ → List ℤ → ℤ
operand_value (Number n) locals variables = n
operand_value (Local i) locals variables = slice_index_or locals i (pos 0)
operand_value (Variable i) locals variables = slice_index_or variables i (pos 0)

-- the local or the variable is there
abbrev pub OperandFits : ℕ → ℕ → Operand → Type 0
OperandFits locals variables (Number n) = Unit {0}
OperandFits locals variables (Local i) = i < locals
OperandFits locals variables (Variable i) = i < variables

-- a value joined with a term
abbrev pub joined_with : List ℤ → List ℤ → ℤ → Term → ℤ
joined_with locals variables value t = applied t.operator value (operand_value t.operand locals variables)

-- the operands joined from left to right
abbrev pub expr_value : Expr → List ℤ → List ℤ → ℤ
expr_value e locals variables =
    fold (joined_with locals variables) (operand_value e.first locals variables) e.rest

abbrev pub ExprFits : ℕ → ℕ → Expr → Type 0
ExprFits locals variables e =
    OperandFits locals variables e.first × All (λ t. OperandFits locals variables t.operand) e.rest
