-- A generated scenario is one, so 0 is due for its summary.
use Rattle.std.proofs.Common.{◌≡◌, ℕ, List, refl, ap, ◌∙◌}
use Rattle.std.specs.Prelude.{None, Result, Ok}
use Rattle.rex_gen.specs.Scenario.{scenario_text}
use Rattle.rex_lockset.specs.Refusal.{refusal_of}
use Rattle.rex_parse.specs.After.{service_of}
use Rattle.rex_scenario.specs.Reading.{answer_of}
use Rattle.rex_scenario.specs.declared.scenario.ScenarioCode.{ScenarioCode}
use Rattle.rex_scenario.specs.declared.scenario.Sections.{Sections}
use Rattle.rex_soak.specs.Generated.{GeneratedScenariosAreGood}
use Rattle.rex_command.specs.Laws.{IsScenario}
use Rattle.rex_answer.specs.Due.{Due}
use Rattle.rex_cli.specs.Due.{due_soak}

zero : (seed size : ℕ) (answer : Result Sections (ℕ × ScenarioCode)) (s : Sections) → answer ≡ Ok s → refusal_of (service_of s.service) ≡ None → (due_soak seed size answer).status ≡ 0
zero seed size answer s read passes = rw (read, passes) refl

-- so it is of the answer to the generated text
pub soak_zero : GeneratedScenariosAreGood → (seed size : ℕ) (text : List ℕ) (d : Due) → IsScenario seed size → text ≡ scenario_text seed size → d ≡ due_soak seed size (answer_of text) → d.status ≡ 0
soak_zero law seed size text d fits is due_is =
    let good = law seed size fits.0 fits.1 fits.2 in
    ap (λ (x : Due). x.status) due_is ∙ zero seed size (answer_of text) good.sections (ap answer_of is ∙ good.read) good.passes
