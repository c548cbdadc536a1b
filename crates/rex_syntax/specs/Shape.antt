-- The shape of a handler's lines: which loops are open, and that each line leads to a line that is there.
use Rattle.std.specs.Prelude.{◌≡◌, ℕ, zero, suc, ◌+◌, ◌-◌, ◌<◌, Bool, true, false, List, [], ◌∷◌, ◌++◌, length, take, Option, Some, None, slice_get, slice_index}
use Rattle.rex_syntax.specs.declared.line.Line.{Line}
use Rattle.rex_syntax.specs.declared.line.Line.TheVariants.{Try, Busy, If, Else, Repeat, EndRepeat, Reply}
use Rattle.rex_syntax.specs.declared.service.TheConstants.{LOOPS}

-- ---- open loops

-- the loops that are open after a line, outermost first, by the first lines of their bodies
abbrev pub open_after : Line → ℕ → List ℕ → List ℕ
open_after (Repeat turns after) place loops = loops ++ (place + 1) ∷ []
open_after EndRepeat place loops = take (length loops - 1) loops
open_after _ place loops = loops

-- the same from a line on, where these loops are open
abbrev pub open_from : ℕ → List ℕ → List Line → ℕ → List ℕ
open_from place loops lines zero = loops
open_from place loops [] (suc i) = loops
open_from place loops (line ∷ lines) (suc i) = open_from (place + 1) (open_after line place loops) lines i

-- the loops that are open at a line
abbrev pub open_at : List Line → ℕ → List ℕ
open_at lines place = open_from 0 [] lines place

-- where a loop goes on after its last turn
abbrev pub after_repeat : Option Line → ℕ
after_repeat (Some (Repeat turns after)) = after
after_repeat _ = 0

-- the line after the loop with this body
abbrev pub after_loop : List Line → ℕ → ℕ
after_loop lines body = after_repeat (slice_get lines (body - 1))

-- ---- shape

-- a line further on that is inside the same loops
pub record IsForward (lines : List Line) (place target : ℕ) : Type 0 where
  pub later : place < target
  pub inside : target < length lines
  pub same : open_at lines target ≡ open_at lines place

-- there is a next line
abbrev pub HasNext : List Line → ℕ → Type 0
HasNext lines place = place + 1 < length lines

-- it opens a loop inside at most three others
pub record OpensLoop (lines : List Line) (place turns after : ℕ) : Type 0 where
  pub next : HasNext lines place
  pub some : 0 < turns
  pub room : length (open_at lines place) < LOOPS
  pub over : IsForward lines place after

-- it ends a loop whose next line is the next one
pub record EndsLoop (lines : List Line) (place : ℕ) : Type 0 where
  pub next : HasNext lines place
  pub some : 0 < length (open_at lines place)
  pub first : 0 < slice_index (open_at lines place) (length (open_at lines place) - 1)
  pub after : after_loop lines (slice_index (open_at lines place) (length (open_at lines place) - 1)) ≡ place + 1
  pub back : slice_index (open_at lines place) (length (open_at lines place) - 1) < length lines
  pub again : open_at lines (slice_index (open_at lines place) (length (open_at lines place) - 1)) ≡ open_at lines place

-- where a line leads is there, and is inside the right loops
abbrev pub LeadsOn : List Line → ℕ → Line → Type 0
LeadsOn lines place (If test otherwise) = HasNext lines place × IsForward lines place otherwise
LeadsOn lines place (Try lock busy) = HasNext lines place × IsForward lines place busy
LeadsOn lines place (Else end) = IsForward lines place end
LeadsOn lines place (Busy end) = IsForward lines place end
LeadsOn lines place (Repeat turns after) = OpensLoop lines place turns after
LeadsOn lines place EndRepeat = EndsLoop lines place
LeadsOn lines place (Reply value) = open_at lines place ≡ []
LeadsOn lines place _ = HasNext lines place

-- each line leads on
pub record IsShaped (lines : List Line) : Type 0 where
  pub each : (place : ℕ) (line : Line) → slice_get lines place ≡ Some line → LeadsOn lines place line

-- ---- second branches

-- the line at which an `if` or a `try` goes on where it doesn't take its first branch
abbrev pub branch_of : Line → Option ℕ
branch_of (If test otherwise) = Some otherwise
branch_of (Try lock busy) = Some busy
branch_of _ = None

-- it ends the first branch of an `if` or a `try`, and a second one follows
abbrev pub is_divider : Line → Bool
is_divider (Else end) = true
is_divider (Busy end) = true
is_divider _ = false

-- an earlier `if` or `try` goes on at this line
pub record IsBranch (lines : List Line) (place : ℕ) : Type 0 where
  pub from : ℕ
  pub fork : Line
  pub there : slice_get lines from ≡ Some fork
  pub earlier : from < place
  pub leads : branch_of fork ≡ Some place

-- the line after an `else` or a `busy` is one at which an earlier `if` or `try` goes on
pub record HasBranches (lines : List Line) : Type 0 where
  pub each : (place : ℕ) (line : Line) → slice_get lines place ≡ Some line → is_divider line ≡ true → IsBranch lines (place + 1)
