-- What a status says of the service that an input declares.
use Rattle.std.specs.Prelude.{◌≡◌, ◌⊎◌, ℕ, Option, Some, None, Result, Ok, Err}
use Rattle.rex_syntax.specs.declared.service.Declarations.{Declarations}
use Rattle.rex_syntax.specs.Check.{IsChecked}
use Rattle.rex_parse.specs.After.{service_of}
use Rattle.rex_scenario.specs.declared.scenario.ScenarioCode.{ScenarioCode}
use Rattle.rex_scenario.specs.declared.scenario.Sections.{Sections}

-- the service of a text that is a scenario
abbrev pub scenario_service : Result Sections (ℕ × ScenarioCode) → Option Declarations
scenario_service (Ok s) = Some (service_of s.service)
scenario_service (Err e) = None

-- 1 where there is no service, 0 where there is one that is checked, 3 where there is one that isn't
abbrev pub Judges : Option Declarations → ℕ → Type 0
Judges None status = status ≡ 1
Judges (Some service) status = ((status ≡ 0) × IsChecked service) ⊎ ((status ≡ 3) × (IsChecked service → ⊥))

-- there is a service that isn't checked
abbrev pub IsBroken : Option Declarations → Type 0
IsBroken None = ⊥
IsBroken (Some service) = IsChecked service → ⊥
