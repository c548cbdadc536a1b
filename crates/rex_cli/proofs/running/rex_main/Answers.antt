use Rattle.std.proofs.Common.{◌≡◌, ◌⊎◌, Option, subst, ◌∙◌}
use Rattle.rex_traits.specs.Causes.{Rose}
use Rattle.rex_traits.specs.Growth.{ForGrowth}
use Rattle.rex_command.specs.declared.commands.Command.{Command}
use Rattle.rex_cli.specs.Due.{due_for}
use Rattle.rex_cli.proofs.running.rex_main.Goals as goal

pub returns-in-Ok-clause-complete : goal.returns-in-Ok-clause-complete
returns-in-Ok-clause-complete g c =
    subst (λ (o : Option Command). ForGrowth (g.S.Source.given c.args.source.now) (g.S.Source.given c.obey.new.source) (λ input. (due_for o input).status ≡ 0
    → (Rose (g.S.Source.faults c.args.source.now) (g.S.Source.faults c.obey.new.source) → ⊥) → (Rose (g.K.Sink.faults c.args.sink.now) (g.K.Sink.faults c.obey.new.sink) → ⊥)
    → (c.obey.result ≡ 0) ⊎ (c.obey.result ≡ 6)))
    c.in-Ok.ensures.command c.obey.ensures.complete

pub returns-in-Ok-clause-headline : goal.returns-in-Ok-clause-headline
returns-in-Ok-clause-headline g c workers journal is zero = c.obey.ensures.headline workers journal (c.in-Ok.ensures.command ∙ is) zero
