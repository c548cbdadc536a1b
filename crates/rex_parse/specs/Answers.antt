-- What the calls of a reader answer.
use Rattle.std.specs.Prelude.{◌≡◌, ℕ, List, map, Option, Some, None, Result, Ok, Err, MatchResult}
use Rattle.std.specs.Borrow.{Bor}
use Rattle.rex_text.specs.Text.{Word}
use Rattle.rex_syntax.specs.declared.service.Declarations.{Declarations}
use Rattle.rex_parse.specs.After.{service_of}
use Rattle.rex_parse.specs.declared.language.Above.{Above}
use Rattle.rex_parse.specs.declared.language.ServiceCode.{ServiceCode}
use Rattle.rex_parse.specs.declared.language.Fault.{Fault}
use Rattle.rex_parse.specs.declared.language.Fault.TheVariants.{Refused, OutOfMemory}
use Rattle.rex_parse.specs.declared.language.ReadError.{ReadError}
use Rattle.rex_parse.specs.declared.language.ReadError.TheVariants as read_error

-- the words of a line
abbrev pub texts : List (Bor Word) → List Word
texts ws = map (λ w. w.now) ws

-- a table's words, each with what stands beside it
abbrev pub rows : {T : Type 0} → List (Bor Word × T) → List (Word × T)
rows rs = map (λ r. (r.0.now, r.1)) rs

-- a refusal names the code that fits
abbrev pub Names : Fault → Option ServiceCode → Type 0
Names OutOfMemory code = Unit {0}
Names (Refused c) code = code ≡ Some c

-- a line was taken where no code fits, or refused with the least that does, or memory ran out
abbrev pub Takes : Result (Unit {0}) Fault → Option ServiceCode → Above → Above → Type 0
Takes r code next new = MatchResult r (λ _. (code ≡ None) × (new ≡ next)) (λ e. Names e code)

-- a refusal is that of the answer
abbrev pub Fails : ReadError → Result Above (ℕ × ServiceCode) → Type 0
Fails read_error.OutOfMemory answer = Unit {0}
Fails (read_error.Refused line c) answer = answer ≡ Err (line, c)

-- what the text declares was read, or its first bad line refused, or memory ran out
abbrev pub Reads : Result Declarations ReadError → Result Above (ℕ × ServiceCode) → Type 0
Reads r answer = MatchResult r (λ s. (a : Above) × (answer ≡ Ok a) × (s ≡ service_of a)) (λ e. Fails e answer)
