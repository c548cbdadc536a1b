-- The first line that the check refuses, and why.
use Rattle.std.specs.Prelude.{ℕ, ◌+◌, List, [], ◌∷◌, length, Option, Some, None, Result, Ok, Err, nat_le, if◌then◌else◌}
use Rattle.std.specs.Option.{option_or}
use Rattle.rex_syntax.specs.declared.line.Line.{Line}
use Rattle.rex_syntax.specs.declared.line.Line.TheVariants.{EndRepeat}
use Rattle.rex_syntax.specs.declared.flow.CheckCode.{CheckCode}
use Rattle.rex_syntax.specs.declared.flow.CheckCode.TheVariants.{BranchesDiffer, LoopDiffers, TooLong}
use Rattle.rex_syntax.specs.declared.flow.Leads.{Leads}
use Rattle.rex_syntax.specs.declared.service.Handler.{Handler}
use Rattle.rex_syntax.specs.declared.service.Declarations.{Declarations}
use Rattle.rex_syntax.specs.Leads.{leads_of, nowhere}
use Rattle.rex_syntax.specs.Check.{step_bound}
use Rattle.rex_syntax.specs.declared.service.TheConstants.{STEPS}
use Rattle.rex_lockset.specs.declared.known.Known.{Known}
use Rattle.rex_lockset.specs.declared.known.Known.TheVariants.{Nothing, Held, Differs}
use Rattle.rex_lockset.specs.declared.refusal.Refused.{Refused}
use Rattle.rex_lockset.specs.Known.{known_at, followed, at_start}

-- why a line is refused to which two lines lead with different locksets
abbrev pub meeting_code : Line → CheckCode
meeting_code EndRepeat = LoopDiffers
meeting_code _ = BranchesDiffer

-- where a line leads with what is known of it, or why it is refused; one to which no line leads leads nowhere
abbrev pub outcome : Declarations → Line → Known → Result Leads CheckCode
outcome service line Nothing = Ok nowhere
outcome service line (Held held) = leads_of service line held
outcome service line Differs = Err (meeting_code line)

-- the first refused one of a handler's lines from a place on
abbrev pub refused_line : Declarations → ℕ → ℕ → List Known → List Line → Option Refused
refused_line service handler place known [] = None
refused_line service handler place known (line ∷ lines) =
    elim (outcome service line (known_at known place)) [
      | Ok leads ↦ refused_line service handler (place + 1) (followed known place leads) lines
      | Err code ↦ Some (record { handler = handler; line = Some place; code = code })
    ]

-- a handler that may take more than the most steps is refused as a whole
abbrev pub too_long : ℕ → List Line → Option Refused
too_long handler lines = if nat_le (step_bound lines) STEPS then None else Some (record { handler = handler; line = None; code = TooLong })

-- the first refused line of a handler, and else the handler where it is too long
abbrev pub refusal_in : Declarations → ℕ → Handler → Option Refused
refusal_in service handler h = option_or (refused_line service handler 0 (at_start (length h.lines)) h.lines) (too_long handler h.lines)

-- the first refusal among handlers that are numbered from this number on
abbrev pub refusal_among : Declarations → ℕ → List Handler → Option Refused
refusal_among service number [] = None
refusal_among service number (h ∷ handlers) = option_or (refusal_in service number h) (refusal_among service (number + 1) handlers)

-- the first refusal in a service
abbrev pub refusal_of : Declarations → Option Refused
refusal_of service = refusal_among service 0 service.handlers
