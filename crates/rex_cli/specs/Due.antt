-- What is due: the status and the text that the words and the input ask for.
use Rattle.std.specs.Prelude.{◌==◌, ℕ, List, [], ◌∷◌, ◌++◌, length, nat_lt, Option, Some, None, Result, Ok, Err, codes, if◌then◌else◌}
use Rattle.std.specs.Fmt.{decimal}
use Rattle.rex_syntax.specs.declared.service.Declarations.{Declarations}
use Rattle.rex_parse.specs.Reading.{answer_of as service_answer}
use Rattle.rex_parse.specs.After.{service_of}
use Rattle.rex_parse.specs.declared.language.Above.{Above}
use Rattle.rex_parse.specs.declared.language.ServiceCode.{ServiceCode}
use Rattle.rex_scenario.specs.declared.reading.TheConstants.{SCENARIO_BYTES}
use Rattle.rex_scenario.specs.Reading.{answer_of as scenario_answer, scenario_of}
use Rattle.rex_schedule.specs.declared.scenario.Scenario.{Scenario}
use Rattle.rex_scenario.specs.declared.scenario.ScenarioCode.{ScenarioCode}
use Rattle.rex_scenario.specs.declared.scenario.ScenarioCode.TheVariants.{TooLong}
use Rattle.rex_scenario.specs.declared.scenario.Sections.{Sections}
use Rattle.rex_lockset.specs.Refusal.{refusal_of}
use Rattle.rex_lockset.specs.declared.refusal.Refused.{Refused}
use Rattle.rex_world.specs.Report.{report_of}
use Rattle.rex_world.specs.Tracing.{trace_text}
use Rattle.rex_world.specs.Summaries.{summary_of}
use Rattle.rex_world.specs.declared.summary.Summary.{Summary}
use Rattle.rex_report.specs.Ends.{variable_words}
use Rattle.rex_answer.specs.Refusals.{service_code, scenario_code, line_of}
use Rattle.rex_answer.specs.Due.{Due, due_refused, due_unchecked}
use Rattle.rex_command.specs.Reading.{command_of}
use Rattle.rex_command.specs.declared.commands.Command.{Command}
use Rattle.rex_command.specs.declared.commands.Command.TheVariants.{Run, Trace, Check, Generate, Soak}
use Rattle.rex_gen.specs.Scenario.{scenario_text}

-- words that are no command line are answered so
abbrev pub due_usage : Due
due_usage = record { status = 2; text = codes "usage: rex run|trace|check|gen|soak" ++ 10 ∷ [] }

-- a scenario asks for its report, where its service isn't refused
abbrev pub due_report : Scenario → Declarations → Option Refused → Due
due_report s service None = record { status = 0; text = report_of service s }
due_report s service (Some refused) = due_unchecked service refused

-- what `run` asks for, given what the input says
abbrev pub due_run : Result Sections (ℕ × ScenarioCode) → Due
due_run (Ok s) = due_report (scenario_of s) (service_of s.service) (refusal_of (service_of s.service))
due_run (Err e) = due_refused e.0 (scenario_code e.1)

-- a scenario asks for the agreed trace after its run, where its service isn't refused
abbrev pub due_agreed : Scenario → Declarations → Option Refused → Due
due_agreed s service None = record { status = 0; text = trace_text service s }
due_agreed s service (Some refused) = due_unchecked service refused

-- what `trace` asks for, given what the input says
abbrev pub due_trace : Result Sections (ℕ × ScenarioCode) → Due
due_trace (Ok s) = due_agreed (scenario_of s) (service_of s.service) (refusal_of (service_of s.service))
due_trace (Err e) = due_refused e.0 (scenario_code e.1)

-- how many semaphores a service declares, where there are some
abbrev pub semaphores_counted : ℕ → List (List ℕ)
semaphores_counted count = if count == 0 then [] else (codes "semaphores" ∷ decimal count ∷ [])

-- how many handlers, locks, conditions, variables and semaphores a service declares
abbrev pub counts_of : Declarations → List (List ℕ)
counts_of service =
    codes "handlers" ∷ decimal (length service.handlers) ∷ codes "locks" ∷ decimal (length service.locks) ∷ codes "conditions" ∷ decimal (length service.conditions)
    ∷ codes "variables" ∷ decimal (length service.variables) ∷ semaphores_counted (length service.semaphores)

-- the line with its counts
abbrev pub counts_line : Declarations → List ℕ
counts_line service = line_of (codes "checked") (counts_of service)

-- a service asks for its counts, where it isn't refused
abbrev pub due_counts : Declarations → Option Refused → Due
due_counts service None = record { status = 0; text = counts_line service }
due_counts service (Some refused) = due_unchecked service refused

-- what `check` asks for, given what the input says
abbrev pub due_check : Result Above (ℕ × ServiceCode) → Due
due_check (Ok a) = due_counts (service_of a) (refusal_of (service_of a))
due_check (Err e) = due_refused e.0 (service_code e.1)

-- the numbers of a summary, and the variables with their values
abbrev pub summary_words : ℕ → ℕ → Declarations → Summary → List (List ℕ)
summary_words seed size service s =
    decimal seed ∷ decimal size ∷ codes "lines" ∷ decimal s.lines ∷ codes "messages" ∷ decimal s.messages ∷ codes "known" ∷ decimal s.known ∷ codes "released" ∷ decimal s.released
    ∷ variable_words service.variables s.variables

-- the line that sums up the run of a generated scenario
abbrev pub summary_line : ℕ → ℕ → Declarations → Summary → List ℕ
summary_line seed size service s = line_of (codes "soak") (summary_words seed size service s)

-- a generated scenario asks for the summary of its run, where its service isn't refused
abbrev pub due_summary : ℕ → ℕ → Scenario → Declarations → Option Refused → Due
due_summary seed size s service None = record { status = 0; text = summary_line seed size service (summary_of service s) }
due_summary seed size s service (Some refused) = due_unchecked service refused

-- what `soak` asks for, given what the generated text says
abbrev pub due_soak : ℕ → ℕ → Result Sections (ℕ × ScenarioCode) → Due
due_soak seed size (Ok s) = due_summary seed size (scenario_of s) (service_of s.service) (refusal_of (service_of s.service))
due_soak seed size (Err e) = due_refused e.0 (scenario_code e.1)

-- what `gen` asks for
abbrev pub due_generated : ℕ → ℕ → Due
due_generated seed size = record { status = 0; text = scenario_text seed size }

-- what a command asks for, however many workers replay, and whether records are in journals or not; a service may be as long as a scenario
abbrev pub due_command : Command → List ℕ → Due
due_command (Run workers journal) input = due_run (scenario_answer input)
due_command Trace input = due_trace (scenario_answer input)
due_command Check input = if nat_lt SCENARIO_BYTES (length input) then due_refused 0 (scenario_code TooLong) else due_check (service_answer input)
due_command (Generate seed size) input = due_generated seed size
due_command (Soak seed size workers) input = due_soak seed size (scenario_answer (scenario_text seed size))

-- what a command asks for, if there is one
abbrev pub due_for : Option Command → List ℕ → Due
due_for None input = due_usage
due_for (Some command) input = due_command command input

-- what the words and the input ask for
abbrev pub due : List (List ℕ) → List ℕ → Due
due words input = due_for (command_of words) input
