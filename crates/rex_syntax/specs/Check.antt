-- The check: which services pass it.
use Rattle.std.specs.Prelude.{ℕ, ◌+◌, ◌-◌, ◌*◌, ◌≤◌, max, List, [], ◌∷◌, Option, slice_index}
use Rattle.std.specs.List.{All}
use Rattle.rex_syntax.specs.declared.line.Line.{Line}
use Rattle.rex_syntax.specs.declared.line.Line.TheVariants.{Try, Busy, EndTry, If, Else, EndIf, Repeat, EndRepeat, Reply}
use Rattle.rex_syntax.specs.declared.locks.Lockset.{Lockset}
use Rattle.rex_syntax.specs.declared.service.Handler.{Handler}
use Rattle.rex_syntax.specs.declared.service.Declarations.{Declarations}
use Rattle.rex_syntax.specs.Flow.{IsFlow}
use Rattle.rex_syntax.specs.declared.service.TheConstants.{STEPS}

-- the other line to which a line may lead
abbrev pub other_of : Line → ℕ → ℕ
other_of (If test otherwise) place = otherwise
other_of (Try lock busy) place = busy
other_of (Else end) place = end
other_of (Busy end) place = end
other_of (Repeat turns after) place = after
other_of _ place = place + 1

-- the bound on steps from a line on, by the bounds from the next line and from the other one: 1 for a line, the greater branch, and for a loop its turns, each with one step more
abbrev pub bound_of : Line → ℕ → ℕ → ℕ
bound_of (Else end) next other = other
bound_of (Busy end) next other = other
bound_of EndIf next other = next
bound_of EndTry next other = next
bound_of EndRepeat next other = 0
bound_of (Repeat turns after) next other = 1 + turns * (next + 1) + other
bound_of (Reply value) next other = 1
bound_of _ next other = 1 + max next other

-- the bounds from each line on, to the end of its innermost loop or of the handler
abbrev pub bounds : ℕ → List Line → List ℕ
bounds place [] = []
bounds place (line ∷ lines) =
    let rest = bounds (place + 1) lines in
    bound_of line (slice_index rest 0) (slice_index rest (other_of line place - (place + 1))) ∷ rest

-- the most steps that a handler may take
abbrev pub step_bound : List Line → ℕ
step_bound lines = slice_index (bounds 0 lines) 0

-- a handler passes where its lines have a flow and its bound on steps is not above the most
pub record Passes (service : Declarations) (h : Handler) : Type 0 where
  pub flow : List (Option Lockset)
  pub right : IsFlow service h.lines flow
  pub short : step_bound h.lines ≤ STEPS

-- each handler passes
pub record IsChecked (service : Declarations) : Type 0 where
  pub handlers : All (Passes service) service.handlers
