-- Numbers of 64 bits: those that a service and its requests have, which the types of their values keep in a program.
use Rattle.std.specs.Prelude.{FitsSigned}
use Rattle.std.specs.List.{All}
use Rattle.std.specs.Int.{w64}
use Rattle.rex_syntax.specs.declared.expr.Operand.{Operand}
use Rattle.rex_syntax.specs.declared.expr.Operand.TheVariants.{Number, Local, Variable as OfVariable}
use Rattle.rex_syntax.specs.declared.expr.Term.{Term}
use Rattle.rex_syntax.specs.declared.expr.Expr.{Expr}
use Rattle.rex_syntax.specs.declared.line.Line.{Line}
use Rattle.rex_syntax.specs.declared.line.Line.TheVariants.{Wait, Set, Let, If, Reply}
use Rattle.rex_syntax.specs.declared.service.Variable.{Variable}
use Rattle.rex_syntax.specs.declared.service.Handler.{Handler}
use Rattle.rex_syntax.specs.declared.service.Declarations.{Declarations}
use Rattle.rex_syntax.specs.declared.request.Request.{Request}

-- an operand that is a number is one of 64 bits
abbrev pub OperandIsTyped : Operand → Type 0
OperandIsTyped (Number n) = FitsSigned w64 n
OperandIsTyped (Local i) = Unit {0}
OperandIsTyped (OfVariable i) = Unit {0}

-- so is one after an operator
pub record TermIsTyped (t : Term) : Type 0 where
  pub operand : OperandIsTyped t.operand

-- each number of an expression is one of 64 bits
pub record ExprIsTyped (e : Expr) : Type 0 where
  pub first : OperandIsTyped e.first
  pub rest : All TermIsTyped e.rest

-- so is each of a line's expression, where it has one
abbrev pub NumbersAreTyped : Line → Type 0
NumbersAreTyped (Wait condition test) = ExprIsTyped test
NumbersAreTyped (Set variable value) = ExprIsTyped value
NumbersAreTyped (Let local value) = ExprIsTyped value
NumbersAreTyped (If test otherwise) = ExprIsTyped test
NumbersAreTyped (Reply value) = ExprIsTyped value
NumbersAreTyped _ = Unit {0}

-- the same of a line, as a record
pub record LineIsTyped (line : Line) : Type 0 where
  pub numbers : NumbersAreTyped line

-- each number in a handler's lines is one of 64 bits
pub record HandlerIsTyped (h : Handler) : Type 0 where
  pub lines : All LineIsTyped h.lines

-- a variable's first value is one of 64 bits
pub record VariableIsTyped (v : Variable) : Type 0 where
  pub first : FitsSigned w64 v.first

-- each number that a service has is one of 64 bits
pub record ServiceIsTyped (service : Declarations) : Type 0 where
  pub variables : All VariableIsTyped service.variables
  pub handlers : All HandlerIsTyped service.handlers

-- so are a request's arguments
pub record RequestIsTyped (r : Request) : Type 0 where
  pub arguments : All (FitsSigned w64) r.arguments
