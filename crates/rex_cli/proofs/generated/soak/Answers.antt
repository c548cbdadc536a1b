use Rattle.std.proofs.Common.{◌≡◌, ◌∙◌}
use Rattle.std.proofs.lemmas.Result.{IfOk-weaker}
use Rattle.rex_scenario.specs.Reading.{answer_of}
use Rattle.rex_cli.specs.Due.{due_soak}
use Rattle.rex_cli.proofs.Soaking.{soak_zero}
use Rattle.rex_cli.proofs.generated.soak.Goals as goal

pub returns-clause-good : goal.returns-clause-good
returns-clause-good g c =
    IfOk-weaker c.soak_text.result (λ a. a ≡ due_soak c.args.seed c.args.size (answer_of c.as_bytes.result.now)) (λ a. a.status ≡ 0)
    (λ a is. soak_zero c.generated_scenarios_are_good.ensures c.args.seed c.args.size c.as_bytes.result.now a c.requires.fits (c.as_bytes.ensures.value ∙ c.in_ok-text.ensures) is)
    c.soak_text.ensures.due
