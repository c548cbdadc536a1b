-- What the status of a run says.
use Rattle.std.specs.Prelude.{◌≡◌, ◌<◌, ◌⊎◌, ◌↔◌, ◌++◌, ℕ, List, Option, Some, None, Result, Ok, Err}
use Rattle.rex_traits.specs.Growth.{GrowsByFront}
use Rattle.rex_syntax.specs.declared.service.Declarations.{Declarations}
use Rattle.rex_syntax.specs.Check.{IsChecked}
use Rattle.rex_parse.specs.After.{service_of}
use Rattle.rex_scenario.specs.Beyond.{beyond_words}
use Rattle.rex_scenario.specs.Reading.{unscheduled_answer_of}
use Rattle.rex_scenario.specs.declared.scenario.ScenarioCode.{ScenarioCode}
use Rattle.rex_scenario.specs.declared.scenario.Sections.{Sections}
use Rattle.rex_answer.specs.Due.{Due}
use Rattle.rex_answer.specs.Causes.{IsBroken}
use Rattle.rexlive_cli.specs.Due.{line_beyond}
use Rattle.rexlive_cli.specs.declared.recording.Recording.{Recording}

-- below 4 the status and the bytes that were taken are those of something that is due; at 4 none were taken, and above it none, or a front of something that is due
pub record GivesSome (IsDue : Due → Type 0) (taken_before taken_now : List ℕ) (status : ℕ) : Type 0 where
  pub exact : status < 4 → (due : Due) × IsDue due × (status ≡ due.status) × (taken_now ≡ taken_before ++ due.text)
  pub nothing : status ≡ 4 → taken_now ≡ taken_before
  pub front : 4 < status → (taken_now ≡ taken_before) ⊎ ((due : Due) × IsDue due × GrowsByFront taken_before taken_now due.text)

-- a service, where no line of it can't be recorded
abbrev pub unless_beyond : Declarations → Option ℕ → Option Declarations
unless_beyond service None = Some service
unless_beyond service (Some line) = None

-- the service of a text that is a scenario, where no line of it can't be recorded
abbrev pub recorded_service : Result Sections (ℕ × ScenarioCode) → Option ℕ → Option Declarations
recorded_service (Ok s) line = unless_beyond (service_of s.service) line
recorded_service (Err e) line = None

-- the service of an input that is a scenario without schedule lines, where lanes can record it so
abbrev pub played_service : Recording → List ℕ → Option Declarations
played_service recording input = recorded_service (unscheduled_answer_of input) (line_beyond recording (beyond_words input))

-- the words are a command line, and there is no such service
abbrev pub IsUnread : Option Recording → List ℕ → Type 0
IsUnread None input = ⊥
IsUnread (Some recording) input = played_service recording input ≡ None

-- the words are a command line, and there is one that isn't checked
abbrev pub IsUnchecked : Option Recording → List ℕ → Type 0
IsUnchecked None input = ⊥
IsUnchecked (Some recording) input = IsBroken (played_service recording input)

-- each of the statuses 1 to 3 comes exactly where its cause does
pub record IsCaused (recording : Option Recording) (input : List ℕ) (status : ℕ) : Type 0 where
  pub unread : (status ≡ 1) ↔ IsUnread recording input
  pub usage : (status ≡ 2) ↔ (recording ≡ None)
  pub unchecked : (status ≡ 3) ↔ IsUnchecked recording input

-- there is a service, and it is checked
abbrev pub HasChecked : Option Declarations → Type 0
HasChecked None = ⊥
HasChecked (Some service) = IsChecked service

-- the words are a command line, and the input is a scenario without schedule lines that lanes can record so, of a checked service
abbrev pub IsPlayable : Option Recording → List ℕ → Type 0
IsPlayable None input = ⊥
IsPlayable (Some recording) input = HasChecked (played_service recording input)
