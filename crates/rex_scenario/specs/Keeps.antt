-- What the good lines so far keep: what the sections name is there.
use Rattle.std.specs.Prelude.{◌≡◌, ◌≤◌, true, false, [], length, None, unwrap_or}
use Rattle.std.specs.List.{All}
use Rattle.rex_parse.specs.After.{service_of}
use Rattle.rex_parse.specs.Good.{IsGood}
use Rattle.rex_parse.specs.Reading.{end_code}
use Rattle.rex_syntax.specs.Versions.{is_old_size}
use Rattle.rex_schedule.specs.Counts.{is_node_count}
use Rattle.rex_schedule.specs.Fits.{RequestFits, LineFits, FormFits, VariableFits}
use Rattle.rex_schedule.specs.declared.scenario.TheConstants.{REQUESTS, SCHEDULE_LINES}
use Rattle.rex_scenario.specs.declared.scenario.Sections.{Sections}
use Rattle.rex_scenario.specs.declared.scenario.Stage.{Stage}
use Rattle.rex_scenario.specs.declared.scenario.Stage.TheVariants as stage

-- no requests and no schedule yet
pub record AreAhead (s : Sections) : Type 0 where
  pub requests : s.requests ≡ []
  pub schedule : s.schedule ≡ []

-- the service is whole, and the requests fit it
pub record RequestsFit (s : Sections) : Type 0 where
  pub nodes : is_node_count s.nodes ≡ true
  pub whole : end_code s.service ≡ None
  pub few : length s.requests ≤ REQUESTS
  pub each : All (RequestFits (service_of s.service)) s.requests

-- the schedule lines fit the service and the requests, and there are none where there may be none
pub record ScheduleFits (s : Sections) : Type 0 where
  pub few : length s.schedule ≤ SCHEDULE_LINES
  pub each : All (LineFits s.nodes (length s.requests) (unwrap_or s.service.lanes 0)) s.schedule
  pub forms : All (FormFits (is_old_size (unwrap_or s.service.lanes 0) (length s.service.variables))) s.schedule
  pub variables : All (VariableFits (length s.service.variables)) s.schedule
  pub none : s.scheduled ≡ false → s.schedule ≡ []

-- what holds of the sections that were read
abbrev pub FitsAt : Stage → Sections → Type 0
FitsAt stage.Requests s = RequestsFit s × (s.schedule ≡ [])
FitsAt stage.Schedule s = RequestsFit s × ScheduleFits s
FitsAt stage.Start s = AreAhead s
FitsAt _ s = AreAhead s × (is_node_count s.nodes ≡ true)

-- what holds of the sections so far
pub record SectionsFit (s : Sections) : Type 0 where
  pub service : IsGood s.service
  pub sections : FitsAt s.stage s
