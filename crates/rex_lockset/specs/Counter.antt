-- The counter: a service whose one handler adds its argument to a variable.
use Rattle.std.specs.Prelude.{pos, List, [], ◌∷◌}
use Rattle.rex_syntax.specs.declared.expr.Operator.TheVariants.{Add}
use Rattle.rex_syntax.specs.declared.expr.Operand.{Operand}
use Rattle.rex_syntax.specs.declared.expr.Operand.TheVariants.{Local, Variable}
use Rattle.rex_syntax.specs.declared.expr.Expr.{Expr}
use Rattle.rex_syntax.specs.declared.line.Line.{Line}
use Rattle.rex_syntax.specs.declared.line.Line.TheVariants.{Release, Set, Let, Reply}
use Rattle.rex_syntax.specs.declared.service.LockKind.TheVariants.{Plain}
use Rattle.rex_syntax.specs.declared.service.Handler.{Handler}
use Rattle.rex_syntax.specs.declared.service.Declarations.{Declarations}

-- an operand alone
abbrev pub just : Operand → Expr
just operand = record { first = operand; rest = [] }

-- the variable and the argument, added
abbrev pub sum : Expr
sum = record { first = Variable 0; rest = record { operator = Add; operand = Local 0 } ∷ [] }

-- the handler's lines, of which the first does something with the variable's lock
abbrev pub adding : Line → List Line
adding first = first ∷ Set 0 sum ∷ Let 1 (just (Variable 0)) ∷ Release 0 ∷ Reply (just (Local 1)) ∷ []

-- the handler with these lines
abbrev pub adder : Line → Handler
adder first = record { name = []; line_number = 4; parameters = 1; locals = 2; lines = adding first; line_numbers = 5 ∷ 6 ∷ 7 ∷ 8 ∷ 9 ∷ [] }

-- the service with this handler
abbrev pub counter : Line → Declarations
counter first = record {
  lanes = 2;
  locks = record { name = []; kind = Plain } ∷ [];
  semaphores = [];
  conditions = [];
  variables = record { name = []; guard = 0; first = pos 0 } ∷ [];
  handlers = adder first ∷ [];
}
