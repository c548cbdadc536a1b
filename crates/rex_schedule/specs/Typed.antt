-- A scenario whose numbers are of 64 bits.
use Rattle.std.specs.List.{All}
use Rattle.rex_syntax.specs.declared.service.Declarations.{Declarations}
use Rattle.rex_syntax.specs.Typed.{ServiceIsTyped, RequestIsTyped}
use Rattle.rex_schedule.specs.declared.scenario.Scenario.{Scenario}

-- each number of the service and of each request is one of 64 bits
pub record ScenarioIsTyped (service : Declarations) (s : Scenario) : Type 0 where
  pub numbers : ServiceIsTyped service
  pub arguments : All RequestIsTyped s.requests
