-- What good lines keep, so that a text that ends well declares a service.
use Rattle.std.specs.Prelude.{◌≡◌, ℕ, ◌<◌, ◌≤◌, length, IfSome, MatchOption}
use Rattle.std.specs.List.{All}
use Rattle.rex_syntax.specs.declared.service.LockKind.TheVariants.{Plain}
use Rattle.rex_event.specs.Limits.{most_lanes}
use Rattle.rex_syntax.specs.Limits.{most_variables, most_first}
use Rattle.rex_syntax.specs.declared.service.Semaphore.{Semaphore}
use Rattle.rex_syntax.specs.declared.service.Condition.{Condition}
use Rattle.rex_syntax.specs.declared.service.Variable.{Variable}
use Rattle.rex_syntax.specs.declared.service.Declarations.{Declarations}
use Rattle.rex_syntax.specs.Service.{IsLock, LineNames, IsHandler}
use Rattle.rex_syntax.specs.declared.locks.TheConstants.{LOCKS}
use Rattle.rex_syntax.specs.declared.service.TheConstants.{SEMAPHORES, CONDITIONS, HANDLERS, LINES, LOCALS, PARAMETERS}
use Rattle.rex_parse.specs.Above.{nothing}
use Rattle.rex_parse.specs.After.{service_of}
use Rattle.rex_parse.specs.Growing.{IsGrowing}
use Rattle.rex_parse.specs.declared.language.Above.{Above}
use Rattle.rex_parse.specs.declared.language.Entry.{Entry}
use Rattle.rex_parse.specs.declared.language.OpenHandler.{OpenHandler}
use Rattle.rex_parse.specs.declared.language.Meaning.{Meaning}
use Rattle.rex_parse.specs.declared.language.Meaning.TheVariants as meaning

-- what a name stands for is there, where a handler's name may be that of the open one
abbrev pub MeaningFits : Above → Meaning → Type 0
MeaningFits a (meaning.Lock n) = n < length a.locks
MeaningFits a (meaning.Semaphore n) = n < length a.semaphores
MeaningFits a (meaning.Condition n) = n < length a.conditions
MeaningFits a (meaning.Variable n) = n < length a.variables
MeaningFits a (meaning.Handler n) = n ≤ length a.handlers

-- an open handler with so many locals: there is room for it, its lines are few and lead on save where blocks are open, and what they name is there
pub record IsOpen (service : Declarations) (locals : ℕ) (h : OpenHandler) : Type 0 where
  pub room : length service.handlers < HANDLERS
  pub parameters : h.parameters ≤ PARAMETERS
  pub fewer : h.parameters ≤ locals
  pub short : length h.lines ≤ LINES
  pub numbered : length h.line_numbers ≡ length h.lines
  pub growing : IsGrowing h.lines h.blocks
  pub names : All (LineNames service locals) h.lines

-- nothing is declared, or `lanes` came first; counts are within their limits, names stand for what is there, and each handler is one
pub record IsGood (a : Above) : Type 0 where
  pub begun : MatchOption a.lanes (a ≡ nothing) (λ n. (0 < n) × (n ≤ most_lanes))
  pub locks : length a.locks ≤ LOCKS
  pub few_semaphores : length a.semaphores ≤ SEMAPHORES
  pub few_conditions : length a.conditions ≤ CONDITIONS
  pub few_variables : length a.variables ≤ most_variables
  pub few_handlers : length a.handlers ≤ HANDLERS
  pub locals : length a.locals ≤ LOCALS
  pub names : All (λ (e : Entry). MeaningFits a e.meaning) a.names
  pub semaphores : All (λ (x : Semaphore). x.first ≤ most_first) a.semaphores
  pub conditions : All (λ (c : Condition). IsLock (service_of a) Plain c.lock) a.conditions
  pub variables : All (λ (v : Variable). v.guard < length a.locks) a.variables
  pub handlers : All (IsHandler (service_of a)) a.handlers
  pub opened : IfSome a.open_handler (IsOpen (service_of a) (length a.locals))
