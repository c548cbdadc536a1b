-- What may follow the first operand of an expression.
use Rattle.std.specs.Prelude.{List, [], ◌∷◌, Option, None}
use Rattle.rex_text.specs.Text.{Word}
use Rattle.rex_parse.specs.Words.{least}
use Rattle.rex_parse.specs.Table.{operator_code, expr_code}
use Rattle.rex_parse.specs.declared.language.Above.{Above}
use Rattle.rex_parse.specs.declared.language.ServiceCode.{ServiceCode}

-- the least code that fits what follows an operand: nothing, or an operator and a further expression
abbrev pub rest_code : Above → List Word → Option ServiceCode
rest_code a [] = None
rest_code a (o ∷ ws) = least (operator_code o) (expr_code a ws)
