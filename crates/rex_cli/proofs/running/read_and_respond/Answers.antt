use Rattle.std.proofs.Common.{◌≡◌, List, ℕ, Some, ap, subst, ◌∙◌}
use Rattle.rex_traits.proofs.Known.{for_growth}
use Rattle.rex_traits.specs.Inputs.{IsWholeInput}
use Rattle.rex_cli.specs.Causes.{JudgesCommand, JudgesFor}
use Rattle.rex_cli.specs.Due.{due_command}
use Rattle.rex_cli.specs.Headline.{Committed}
use Rattle.rex_cli.specs.Response.{due_of}
use Rattle.rex_cli.proofs.running.read_and_respond.Goals as goal

pub returns-in-Ok-response_to-clause-due : goal.returns-in-Ok-response_to-clause-due
returns-in-Ok-response_to-clause-due g c =
    for_growth (g.S.Source.given c.args.source.now) (g.S.Source.given c.read_input.new.source) c.in-Ok.input.bytes.items (λ input. due_of c.in-Ok-response_to.response ≡ due_command c.args.command input) c.in-Ok.ensures.given
    (c.in-Ok-response_to.ensures.due ∙ ap (λ (bytes : List ℕ). due_command c.args.command bytes) c.deref.ensures.value)

pub returns-in-Ok-response_to-clause-judges : goal.returns-in-Ok-response_to-clause-judges
returns-in-Ok-response_to-clause-judges g c =
    for_growth (g.S.Source.given c.args.source.now) (g.S.Source.given c.read_input.new.source) c.in-Ok.input.bytes.items (λ input. JudgesFor (Some c.args.command) input (due_of c.in-Ok-response_to.response).status) c.in-Ok.ensures.given
    (subst (λ (bytes : List ℕ). JudgesCommand c.args.command bytes (due_of c.in-Ok-response_to.response).status) c.deref.ensures.value c.in-Ok-response_to.ensures.judges)

pub returns-in-Ok-response_to-clause-whole : goal.returns-in-Ok-response_to-clause-whole
returns-in-Ok-response_to-clause-whole g c =
    for_growth (g.S.Source.given c.args.source.now) (g.S.Source.given c.read_input.new.source) c.in-Ok.input.bytes.items
    (IsWholeInput (g.S.Source.ended c.read_input.new.source) (g.S.Source.left c.args.source.now) (g.S.Source.left c.read_input.new.source)) c.in-Ok.ensures.given c.in-Ok.ensures.whole

pub returns-in-Ok-response_to-clause-headline : goal.returns-in-Ok-response_to-clause-headline
returns-in-Ok-response_to-clause-headline g c workers journal runs zero =
    for_growth (g.S.Source.given c.args.source.now) (g.S.Source.given c.read_input.new.source) c.in-Ok.input.bytes.items Committed c.in-Ok.ensures.given
    (subst Committed c.deref.ensures.value (c.in-Ok-response_to.ensures.headline workers journal runs zero))
