-- What is due for a response.
use Rattle.std.specs.Prelude.{◌≡◌, Bool}
use Rattle.rex_schedule.specs.Fits.{ScenarioFits}
use Rattle.rex_world.specs.Report.{report_of}
use Rattle.rex_answer.specs.Due.{Due}
use Rattle.rex_cli.specs.declared.answers.Response.{Response}
use Rattle.rex_cli.specs.declared.answers.Response.TheVariants.{Told, Run}

-- the answer itself, or the report of the run
abbrev pub due_of : Response → Due
due_of (Told answer) = answer
due_of (Run plan) = record { status = 0; text = report_of plan.service plan.scenario }

-- what a run names is there
abbrev pub MayRun : Response → Type 0
MayRun (Told answer) = Unit {0}
MayRun (Run plan) = ScenarioFits plan.service plan.scenario

-- the nodes of a run keep their records in journals just where that is asked for
abbrev pub IsKept : Bool → Response → Type 0
IsKept in_journals (Told answer) = Unit {0}
IsKept in_journals (Run plan) = plan.in_journals ≡ in_journals
