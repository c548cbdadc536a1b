-- How many events a request may still make.
use Rattle.std.specs.Prelude.{ℕ, ◌+◌, ◌-◌, ◌*◌, List, Option, Some, None, slice_index}
use Rattle.std.specs.List.{sum_by}
use Rattle.rex_syntax.specs.declared.line.Line.{Line}
use Rattle.rex_syntax.specs.declared.service.Declarations.{Declarations}
use Rattle.rex_syntax.specs.Check.{bounds}
use Rattle.rex_syntax.specs.Shape.{after_loop}
use Rattle.rex_frame.specs.declared.frame.Frame.{Frame}
use Rattle.rex_frame.specs.declared.frame.Turn.{Turn}
use Rattle.rex_state.specs.Lines.{lines_of}

-- the bound on steps from a line on, to the end of its innermost loop or of the handler
abbrev pub bound : List Line → ℕ → ℕ
bound lines place = slice_index (bounds 0 lines) place

-- the bound on steps in the turns that an open loop has left, and after it
abbrev pub turns_bound : List Line → Turn → ℕ
turns_bound lines t = (t.left - 1) * (bound lines t.body + 1) + bound lines (after_loop lines t.body)

-- the bound on steps of a frame
abbrev pub steps_in : List Line → Frame → ℕ
steps_in lines f = bound lines f.place + sum_by (turns_bound lines) f.turns.items

-- the bound on steps of a lane, which may be idle
abbrev pub left_at : Declarations → Option Frame → ℕ
left_at service None = 0
left_at service (Some f) = steps_in (lines_of service f.handler) f
