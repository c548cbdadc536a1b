-- What a run comes to, in numbers.
use Rattle.std.specs.Prelude.{Bool, true, false, List, filter, length}
use Rattle.rex_syntax.specs.declared.service.Declarations.{Declarations}
use Rattle.rex_report.specs.declared.effect.Effect.{Effect}
use Rattle.rex_report.specs.declared.effect.Effect.TheVariants.{Released}
use Rattle.rex_schedule.specs.declared.scenario.Scenario.{Scenario}
use Rattle.rex_schedule.specs.declared.scenario.ScheduleLine.{ScheduleLine}
use Rattle.rex_cluster.specs.Values.{trace_of, state_after}
use Rattle.rex_cluster.specs.Agreed.{agreed, world_after}
use Rattle.rex_cluster.specs.World.{World, beginning, effects_of}
use Rattle.rex_world.specs.declared.summary.Summary.{Summary}

-- the effect is the release of a reply
abbrev pub is_release : Effect → Bool
is_release (Released client sequence value) = true
is_release _ = false

-- the releases that lines report from a world of a scenario on
abbrev pub releases_from : Declarations → Scenario → World → List ScheduleLine → List Effect
releases_from service s w lines = filter is_release (effects_of service s.requests s.seed s.nodes w lines)

-- the world that a scenario's run ends in
abbrev pub last_world : Declarations → Scenario → World
last_world service s = world_after service s.requests s.seed s.nodes s.schedule

-- what the run of a scenario comes to: its lines, the messages that were sent, the values that were agreed on, the replies that were released, and the variables after the agreed trace
abbrev pub summary_of : Declarations → Scenario → Summary
summary_of service s = record {
  lines = length s.schedule;
  messages = length (last_world service s).messages;
  known = length (agreed (last_world service s));
  released = length (releases_from service s (beginning s.nodes) s.schedule);
  variables = (state_after service (trace_of (agreed (last_world service s)))).variables;
}
