-- The limits of a service.
use Rattle.std.specs.Prelude.{ℕ}
use Rattle.rex_syntax.specs.declared.service.TheConstants.{VARIABLES, MOST_FIRST}

-- the most variables
abbrev pub most_variables : ℕ
most_variables = VARIABLES

-- the greatest first value of a semaphore
abbrev pub most_first : ℕ
most_first = MOST_FIRST
