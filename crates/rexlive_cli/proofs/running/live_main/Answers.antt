use Rattle.std.proofs.Common.{◌≡◌, ◌⊎◌, Option, subst}
use Rattle.rex_traits.specs.Causes.{Rose}
use Rattle.rex_traits.specs.Growth.{ForGrowth}
use Rattle.rexlive_cli.specs.Outcome.{IsPlayable}
use Rattle.rexlive_cli.specs.declared.recording.Recording.{Recording}
use Rattle.rexlive_cli.proofs.running.live_main.Goals as goal

pub returns-in-Some-clause-complete : goal.returns-in-Some-clause-complete
returns-in-Some-clause-complete g c =
    subst (λ (o : Option Recording). ForGrowth (g.S.Source.given c.args.source.now) (g.S.Source.given c.play_input.new.source) (λ input. IsPlayable o input
    → (Rose (g.S.Source.faults c.args.source.now) (g.S.Source.faults c.play_input.new.source) → ⊥) → (Rose (g.K.Sink.faults c.args.sink.now) (g.K.Sink.faults c.play_input.new.sink) → ⊥)
    → (c.play_input.result ≡ 0) ⊎ (c.play_input.result ≡ 6)))
    c.in-Some.ensures c.play_input.ensures.complete
