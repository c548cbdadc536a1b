-- What is said of the service that a text declares.
use Rattle.std.proofs.Common.{◌≡◌, ℕ, Option, Result, Ok, Err, IfOk, sym, subst, ap, ◌∙◌}
use Rattle.rex_syntax.specs.declared.service.Declarations.{Declarations}
use Rattle.rex_parse.specs.After.{service_of}
use Rattle.rex_schedule.specs.declared.scenario.Scenario.{Scenario}
use Rattle.rex_scenario.specs.declared.scenario.ScenarioCode.{ScenarioCode}
use Rattle.rex_scenario.specs.declared.scenario.Sections.{Sections}
use Rattle.rex_scenario.specs.Answers.{Says}
use Rattle.rex_answer.specs.Due.{Due}
use Rattle.rex_answer.specs.Causes.{Judges}
use Rattle.rexlive_cli.specs.Due.{IsDueAt, IsDueIn, line_beyond}
use Rattle.rexlive_cli.specs.Outcome.{unless_beyond, recorded_service}
use Rattle.rexlive_cli.specs.declared.recording.Recording.{Recording}

service_is : (answer : Result Sections (ℕ × ScenarioCode)) (scenario : Scenario) (service : Declarations) (line : Option ℕ) → Says answer scenario service → recorded_service answer line ≡ unless_beyond service line
service_is (Ok s) scenario service line says = ap (λ (d : Declarations). unless_beyond d line) (sym says.1)
service_is (Err e) scenario service line says = absurd says

pub judged_of : {E : Type 0} (recording : Recording) (answer : Result Sections (ℕ × ScenarioCode)) (scenario : Scenario) (service : Declarations) (beyond : Option ℕ) (result : Result Due E) → Says answer scenario service
    → scenario.beyond ≡ beyond → IfOk result (λ a. Judges (unless_beyond service (line_beyond recording scenario.beyond)) a.status)
    → IfOk result (λ a. Judges (recorded_service answer (line_beyond recording beyond)) a.status)
judged_of recording answer scenario service beyond result says line h =
    subst (λ (o : Option Declarations). IfOk result (λ a. Judges o a.status))
    (ap (λ (l : Option ℕ). unless_beyond service (line_beyond recording l)) line ∙ sym (service_is answer scenario service (line_beyond recording beyond) says)) h

due_in : (recording : Recording) (answer : Result Sections (ℕ × ScenarioCode)) (scenario : Scenario) (service : Declarations) (line : Option ℕ) (d : Due) → Says answer scenario service
    → IsDueAt recording scenario service line d → IsDueIn recording answer line d
due_in recording (Ok s) scenario service line d says h =
    subst (λ (x : Scenario). IsDueAt recording x (service_of s.service) line d) says.0 (subst (λ (y : Declarations). IsDueAt recording scenario y line d) says.1 h)
due_in recording (Err e) scenario service line d says h = absurd says

pub due_of : {E : Type 0} (recording : Recording) (answer : Result Sections (ℕ × ScenarioCode)) (scenario : Scenario) (service : Declarations) (beyond : Option ℕ) (result : Result Due E) → Says answer scenario service
    → scenario.beyond ≡ beyond → IfOk result (λ a. IsDueAt recording scenario service (line_beyond recording scenario.beyond) a)
    → IfOk result (λ a. IsDueIn recording answer (line_beyond recording beyond) a)
due_of recording answer scenario service beyond (Ok d) says line h =
    due_in recording answer scenario service (line_beyond recording beyond) d says (subst (λ (l : Option ℕ). IsDueAt recording scenario service (line_beyond recording l) d) line h)
due_of recording answer scenario service beyond (Err e) says line h = tt
