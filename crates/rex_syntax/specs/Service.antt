-- What a service keeps: all that is named is there and of the right kind, and counts are within their limits.
use Rattle.std.specs.Prelude.{◌≡◌, ℕ, ◌<◌, ◌≤◌, true, length, Some, slice_get}
use Rattle.std.specs.List.{All}
use Rattle.rex_syntax.specs.declared.expr.Expr.{Expr}
use Rattle.rex_syntax.specs.declared.line.Line.{Line}
use Rattle.rex_syntax.specs.declared.line.Line.TheVariants.{Acquire, Share, Release, Try, Wait, Signal, Broadcast, Down, Up, Set, Let, Clock, Random, If, Repeat, Reply}
use Rattle.rex_syntax.specs.declared.service.LockKind.{LockKind}
use Rattle.rex_syntax.specs.declared.service.LockKind.TheVariants.{Plain, ReadersWriter}
use Rattle.rex_syntax.specs.declared.service.Lock.{Lock}
use Rattle.rex_syntax.specs.declared.service.Semaphore.{Semaphore}
use Rattle.rex_syntax.specs.declared.service.Condition.{Condition}
use Rattle.rex_syntax.specs.declared.service.Variable.{Variable}
use Rattle.rex_syntax.specs.declared.service.Handler.{Handler}
use Rattle.rex_syntax.specs.declared.service.Declarations.{Declarations}
use Rattle.rex_event.specs.Limits.{most_lanes}
use Rattle.rex_syntax.specs.Limits.{most_variables, most_first}
use Rattle.rex_syntax.specs.Expr.{ExprFits}
use Rattle.rex_syntax.specs.Shape.{IsShaped, HasBranches}
use Rattle.rex_syntax.specs.Blocks.{is_matched}
use Rattle.rex_syntax.specs.declared.locks.TheConstants.{LOCKS}
use Rattle.rex_syntax.specs.declared.service.TheConstants.{SEMAPHORES, CONDITIONS, HANDLERS, LINES, LOCALS, PARAMETERS, TURNS}

-- a lock of this kind has the number
pub record IsLock (service : Declarations) (kind : LockKind) (lock : ℕ) : Type 0 where
  pub found : Lock
  pub there : slice_get service.locks lock ≡ Some found
  pub kind_is : found.kind ≡ kind

-- the locals and variables that an expression reads are there
abbrev pub ExprNames : Declarations → ℕ → Expr → Type 0
ExprNames service locals e = ExprFits locals (length service.variables) e

-- what a line of a handler with so many locals names is there, and of the right kind
abbrev pub LineNames : Declarations → ℕ → Line → Type 0
LineNames service locals (Acquire lock) = lock < length service.locks
LineNames service locals (Share lock) = IsLock service ReadersWriter lock
LineNames service locals (Release lock) = lock < length service.locks
LineNames service locals (Try lock busy) = IsLock service Plain lock
LineNames service locals (Wait condition test) = (condition < length service.conditions) × ExprNames service locals test
LineNames service locals (Signal condition) = condition < length service.conditions
LineNames service locals (Broadcast condition) = condition < length service.conditions
LineNames service locals (Down semaphore) = semaphore < length service.semaphores
LineNames service locals (Up semaphore) = semaphore < length service.semaphores
LineNames service locals (Set variable value) = (variable < length service.variables) × ExprNames service locals value
LineNames service locals (Let local value) = (local < locals) × ExprNames service locals value
LineNames service locals (Clock local) = local < locals
LineNames service locals (Random local) = local < locals
LineNames service locals (If test otherwise) = ExprNames service locals test
LineNames service locals (Repeat turns after) = (0 < turns) × (turns ≤ TURNS)
LineNames service locals (Reply value) = ExprNames service locals value
LineNames service locals _ = Unit {0}

-- a handler's blocks are matched, its lines lead on, its second branches are led to, and what its lines name is there
pub record IsHandler (service : Declarations) (h : Handler) : Type 0 where
  pub parameters : h.parameters ≤ PARAMETERS
  pub fewer : h.parameters ≤ h.locals
  pub locals : h.locals ≤ LOCALS
  pub some : 0 < length h.lines
  pub short : length h.lines ≤ LINES
  pub numbered : length h.line_numbers ≡ length h.lines
  pub matched : is_matched h.lines ≡ true
  pub shaped : IsShaped h.lines
  pub branches : HasBranches h.lines
  pub names : All (LineNames service h.locals) h.lines

-- declarations within their limits, whose semaphores have small first values, whose conditions have plain locks and whose variables have guards
pub record IsService (service : Declarations) : Type 0 where
  pub some_lanes : 0 < service.lanes
  pub lanes : service.lanes ≤ most_lanes
  pub locks : length service.locks ≤ LOCKS
  pub few_semaphores : length service.semaphores ≤ SEMAPHORES
  pub few_conditions : length service.conditions ≤ CONDITIONS
  pub few_variables : length service.variables ≤ most_variables
  pub few_handlers : length service.handlers ≤ HANDLERS
  pub some_handlers : 0 < length service.handlers
  pub semaphores : All (λ (x : Semaphore). x.first ≤ most_first) service.semaphores
  pub conditions : All (λ (c : Condition). IsLock service Plain c.lock) service.conditions
  pub variables : All (λ (v : Variable). v.guard < length service.locks) service.variables
  pub handlers : All (IsHandler service) service.handlers
