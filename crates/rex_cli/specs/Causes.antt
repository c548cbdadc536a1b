-- What each status below 4 says of the words and the input.
use Rattle.std.specs.Prelude.{◌≡◌, ◌↔◌, ℕ, List, length, nat_lt, Option, Some, None, Result, Ok, Err, if◌then◌else◌}
use Rattle.rex_syntax.specs.declared.service.Declarations.{Declarations}
use Rattle.rex_parse.specs.Reading.{answer_of as service_answer}
use Rattle.rex_parse.specs.After.{service_of}
use Rattle.rex_parse.specs.declared.language.Above.{Above}
use Rattle.rex_parse.specs.declared.language.ServiceCode.{ServiceCode}
use Rattle.rex_scenario.specs.declared.reading.TheConstants.{SCENARIO_BYTES}
use Rattle.rex_scenario.specs.Reading.{answer_of as scenario_answer}
use Rattle.rex_answer.specs.Causes.{scenario_service, Judges, IsBroken}
use Rattle.rex_command.specs.declared.commands.Command.{Command}
use Rattle.rex_command.specs.declared.commands.Command.TheVariants.{Run, Trace, Check, Generate, Soak}

-- the service of a text that is one
abbrev pub plain_service : Result Above (ℕ × ServiceCode) → Option Declarations
plain_service (Ok a) = Some (service_of a)
plain_service (Err e) = None

-- the service that an input declares: `run` and `trace` ask for a scenario with one, and `check` for one alone; `gen` and `soak` ask for none
abbrev pub service_in : Command → List ℕ → Option Declarations
service_in (Run workers journal) input = scenario_service (scenario_answer input)
service_in Trace input = scenario_service (scenario_answer input)
service_in Check input = if nat_lt SCENARIO_BYTES (length input) then None else plain_service (service_answer input)
service_in (Generate seed size) input = None
service_in (Soak seed size workers) input = None

-- what a status says of the service that an input declares under a command: 0 where the command asks for none
abbrev pub JudgesCommand : Command → List ℕ → ℕ → Type 0
JudgesCommand (Generate seed size) input status = status ≡ 0
JudgesCommand (Soak seed size workers) input status = status ≡ 0
JudgesCommand command input status = Judges (service_in command input) status

-- the same for words, with 2 where they are no command line
abbrev pub JudgesFor : Option Command → List ℕ → ℕ → Type 0
JudgesFor None input status = status ≡ 2
JudgesFor (Some command) input status = JudgesCommand command input status

-- the words are a command line that asks for an input, and that is no scenario or, for `check`, no service
abbrev pub IsUnread : Option Command → List ℕ → Type 0
IsUnread None input = ⊥
IsUnread (Some (Generate seed size)) input = ⊥
IsUnread (Some (Soak seed size workers)) input = ⊥
IsUnread (Some command) input = service_in command input ≡ None

-- the words are a command line, and the input has a service that isn't checked
abbrev pub IsUnchecked : Option Command → List ℕ → Type 0
IsUnchecked None input = ⊥
IsUnchecked (Some command) input = IsBroken (service_in command input)

-- each of the statuses 1 to 3 comes exactly where its cause does
pub record IsCaused (command : Option Command) (input : List ℕ) (status : ℕ) : Type 0 where
  pub unread : (status ≡ 1) ↔ IsUnread command input
  pub usage : (status ≡ 2) ↔ (command ≡ None)
  pub unchecked : (status ≡ 3) ↔ IsUnchecked command input
