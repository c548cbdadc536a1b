-- What is due: the status and the text that an input asks for. Which history the lanes record is open.
use Rattle.std.specs.Prelude.{◌≡◌, ℕ, List, [], ◌∷◌, ◌++◌, Option, Some, None, Result, Ok, Err, codes}
use Rattle.rex_syntax.specs.declared.service.Declarations.{Declarations}
use Rattle.rex_parse.specs.After.{service_of}
use Rattle.rex_event.specs.declared.event.Event.{Event}
use Rattle.rex_scenario.specs.Beyond.{beyond_words}
use Rattle.rex_scenario.specs.Reading.{unscheduled_answer_of, scenario_of}
use Rattle.rex_schedule.specs.declared.scenario.Scenario.{Scenario}
use Rattle.rex_scenario.specs.declared.scenario.ScenarioCode.{ScenarioCode}
use Rattle.rex_scenario.specs.declared.scenario.Sections.{Sections}
use Rattle.rex_lockset.specs.Refusal.{refusal_of}
use Rattle.rex_lockset.specs.declared.refusal.Refused.{Refused}
use Rattle.rex_lead.specs.Lead.{IsLed, blocks_of, live_text}
use Rattle.rex_answer.specs.Refusals.{scenario_code}
use Rattle.rex_answer.specs.Due.{Due, due_refused, due_unchecked}
use Rattle.rexlive_cli.specs.Recording.{IsHistoryBy}
use Rattle.rexlive_cli.specs.declared.recording.Recording.{Recording}
use Rattle.rexlive_cli.specs.declared.recording.Recording.TheVariants.{Floor, Words}

-- words that are no command line are answered so
abbrev pub due_usage : Due
due_usage = record { status = 2; text = codes "usage: rexlive [--words]" ++ 10 ∷ [] }

-- the service's lanes recorded a history of the scenario's requests and seed; it was led to agreement, and the text is the trace and the end lines
pub record IsPlayed (recording : Recording) (service : Declarations) (s : Scenario) (due : Due) : Type 0 where
  pub history : List Event
  pub made : IsHistoryBy recording service s.requests s.seed history
  pub led : IsLed service s history
  pub status : due.status ≡ 0
  pub text : due.text ≡ live_text service s (blocks_of history)

-- a scenario is played, where its service isn't refused
abbrev pub IsDueTo : Recording → Scenario → Declarations → Option Refused → Due → Type 0
IsDueTo recording s service None due = IsPlayed recording service s due
IsDueTo recording s service (Some refused) due = due ≡ due_unchecked service refused

-- the same of a scenario that may have a line which its lanes can't record
abbrev pub IsDueAt : Recording → Scenario → Declarations → Option ℕ → Due → Type 0
IsDueAt recording s service None due = IsDueTo recording s service (refusal_of service) due
IsDueAt recording s service (Some line) due = due ≡ due_refused line (codes "W1")

-- the line that lanes can't record: where they record by lock words, the one that is beyond these
abbrev pub line_beyond : Recording → Option ℕ → Option ℕ
line_beyond Floor line = None
line_beyond Words line = line

-- the same given what the input says
abbrev pub IsDueIn : Recording → Result Sections (ℕ × ScenarioCode) → Option ℕ → Due → Type 0
IsDueIn recording (Ok s) line due = IsDueAt recording (scenario_of s) (service_of s.service) line due
IsDueIn recording (Err e) line due = due ≡ due_refused e.0 (scenario_code e.1)

-- the same of an input
abbrev pub IsDue : Recording → List ℕ → Due → Type 0
IsDue recording input due = IsDueIn recording (unscheduled_answer_of input) (line_beyond recording (beyond_words input)) due

-- something that is due to words and an input: the usage, where the words are no command line
abbrev pub IsDueFor : Option Recording → List ℕ → Due → Type 0
IsDueFor None input due = due ≡ due_usage
IsDueFor (Some recording) input due = IsDue recording input due
