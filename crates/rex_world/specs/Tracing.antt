-- The agreed trace of a scenario.
use Rattle.std.specs.Prelude.{ℕ, List}
use Rattle.rex_syntax.specs.declared.service.Declarations.{Declarations}
use Rattle.rex_schedule.specs.declared.scenario.Scenario.{Scenario}
use Rattle.rex_cluster.specs.Agreed.{agreed, world_after}
use Rattle.rex_steps.specs.Tracing.{values_text}

-- the agreed trace after the run of a scenario
abbrev pub trace_text : Declarations → Scenario → List ℕ
trace_text service s = values_text service 1 (agreed (world_after service s.requests s.seed s.nodes s.schedule))
