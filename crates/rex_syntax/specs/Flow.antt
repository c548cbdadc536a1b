-- What is held at each line of a handler.
use Rattle.std.specs.Prelude.{◌≡◌, ℕ, ◌+◌, ◌<◌, List, length, Option, Some, None, Ok, IfSome, slice_index_or, slice_get}
use Rattle.rex_syntax.specs.declared.line.Line.{Line}
use Rattle.rex_syntax.specs.declared.locks.Lockset.{Lockset}
use Rattle.rex_syntax.specs.declared.service.Declarations.{Declarations}
use Rattle.rex_syntax.specs.Locks.{no_locks}
use Rattle.rex_syntax.specs.declared.flow.Leads.{Leads}
use Rattle.rex_syntax.specs.Leads.{leads_of}

-- what is held at a line when a lane comes to it, where that is known
abbrev pub entry : List (Option Lockset) → ℕ → Option Lockset
entry known line = slice_index_or known line None

-- the line leads with what is known of it to what is known of the lines after it
pub record IsRightAt (service : Declarations) (line : Line) (place : ℕ) (known : List (Option Lockset)) : Type 0 where
  pub held : Lockset
  pub leads : Leads
  pub before : entry known place ≡ Some held
  pub may : leads_of service line held ≡ Ok leads
  pub next : IfSome leads.next (λ after. entry known (place + 1) ≡ Some after)
  pub other : IfSome leads.other.held (λ there. entry known leads.other.line ≡ Some there)

-- what is held at each of the first lines: nothing at the first, and each leads to what is held after it
pub record IsFlowTo (service : Declarations) (lines : List Line) (count : ℕ) (flow : List (Option Lockset)) : Type 0 where
  pub long : length flow ≡ length lines
  pub start : entry flow 0 ≡ Some no_locks
  pub each : (place : ℕ) (line : Line) → place < count → slice_get lines place ≡ Some line → IsRightAt service line place flow

-- the same for all lines
abbrev pub IsFlow : Declarations → List Line → List (Option Lockset) → Type 0
IsFlow service lines flow = IsFlowTo service lines (length lines) flow
