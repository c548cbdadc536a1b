-- The headline for the scenario that an input is.
use Rattle.std.specs.Prelude.{ℕ, List, Result, Ok, Err}
use Rattle.rex_syntax.specs.declared.service.Declarations.{Declarations}
use Rattle.rex_parse.specs.After.{service_of}
use Rattle.rex_schedule.specs.declared.scenario.Scenario.{Scenario}
use Rattle.rex_scenario.specs.declared.scenario.ScenarioCode.{ScenarioCode}
use Rattle.rex_scenario.specs.declared.scenario.Sections.{Sections}
use Rattle.rex_scenario.specs.Reading.{answer_of, scenario_of}
use Rattle.rex_world.specs.Laws.{Headline, StaysFaithful}

-- of a scenario's run the headline holds, and whatever an active node would cut is faithful, wherever an event is below it
pub record IsCommitted (service : Declarations) (s : Scenario) : Type 0 where
  pub headline : Headline service s.requests s.seed s.nodes s.schedule
  pub faithful : StaysFaithful service s.requests s.seed s.nodes s.schedule

-- so it is of the scenario that was read, if one was
abbrev pub CommittedIn : Result Sections (ℕ × ScenarioCode) → Type 0
CommittedIn (Ok s) = IsCommitted (service_of s.service) (scenario_of s)
CommittedIn (Err e) = Unit {0}

-- of the run of the scenario that the input is: what nodes know is one list, which runs on one thread, every released reply stands in every later leader's trace, what clients read is of fronts of it that never get shorter, and each cut is faithful
abbrev pub Committed : List ℕ → Type 0
Committed input = CommittedIn (answer_of input)
