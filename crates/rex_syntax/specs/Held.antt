-- What is held at a line, by the lines before it.
use Rattle.std.specs.Prelude.{◌≡◌, ℕ, ◌<◌, ◌≤◌, true, List, length, Option, Some, slice_get}
use Rattle.std.specs.List.{All}
use Rattle.rex_syntax.specs.declared.line.Line.{Line}
use Rattle.rex_syntax.specs.declared.line.Line.TheVariants.{Acquire, Share, Release, Try}
use Rattle.rex_syntax.specs.declared.locks.Lockset.{Lockset}
use Rattle.rex_syntax.specs.declared.locks.Mode.TheVariants.{Free, Shared, Exclusive}
use Rattle.rex_syntax.specs.declared.service.Handler.{Handler}
use Rattle.rex_syntax.specs.declared.service.Declarations.{Declarations}
use Rattle.rex_syntax.specs.Locks.{with_mode}
use Rattle.rex_syntax.specs.Blocks.{is_matched}
use Rattle.rex_syntax.specs.Shape.{branch_of, HasBranches}
use Rattle.rex_syntax.specs.Flow.{entry, IsFlow}
use Rattle.rex_syntax.specs.declared.locks.TheConstants.{LOCKS}
use Rattle.rex_syntax.specs.declared.service.TheConstants.{LINES}

-- a handler has this number, and one of its lines has that one
pub record HasLine (service : Declarations) (handler line : ℕ) : Type 0 where
  pub found : Handler
  pub there : slice_get service.handlers handler ≡ Some found
  pub inside : line < length found.lines

-- each flow of the handler's lines has this at the line
abbrev pub IsHeldAt : Declarations → ℕ → ℕ → Lockset → Type 0
IsHeldAt service handler line held = (h : Handler) (flow : List (Option Lockset)) → slice_get service.handlers handler ≡ Some h → IsFlow service h.lines flow → entry flow line ≡ Some held

-- what is held at the next line, where a line leads there with this held
abbrev pub held_after : Line → Lockset → Lockset
held_after (Acquire lock) held = with_mode held lock Exclusive
held_after (Share lock) held = with_mode held lock Shared
held_after (Release lock) held = with_mode held lock Free
held_after (Try lock busy) held = with_mode held lock Exclusive
held_after _ held = held

-- the lock that a line takes or gives up has one of the numbers that locks have
abbrev pub NamesLock : Line → Type 0
NamesLock (Acquire lock) = lock < LOCKS
NamesLock (Share lock) = lock < LOCKS
NamesLock (Release lock) = lock < LOCKS
NamesLock (Try lock busy) = lock < LOCKS
NamesLock _ = Unit {0}

-- lines of which each but the first is led to by an earlier one
pub record IsTraceable (lines : List Line) : Type 0 where
  pub short : length lines ≤ LINES
  pub matched : is_matched lines ≡ true
  pub branches : HasBranches lines
  pub locks : All NamesLock lines

-- the `if` or `try` at a line goes on at this place
pub record ForksTo (lines : List Line) (place from : ℕ) : Type 0 where
  pub fork : Line
  pub there : slice_get lines from ≡ Some fork
  pub leads : branch_of fork ≡ Some place

-- at a line or before it is one that goes on at this place
pub record ForksBy (lines : List Line) (place last : ℕ) : Type 0 where
  pub from : ℕ
  pub by : from ≤ last
  pub forks : ForksTo lines place from
