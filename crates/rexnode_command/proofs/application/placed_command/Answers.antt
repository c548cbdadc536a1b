use Rattle.std.proofs.Common.{ap₂, ◌∙◌}
use Rattle.clap.specs.Words.{with_rule}
use Rattle.rexnode_command.proofs.application.placed_command.Goals as goal

pub returns-clause-app : goal.returns-clause-app
returns-clause-app c =
    let one = c.in_ok-arg.ensures.shape c.node_argument.ensures.local ∙ ap₂ with_rule c.bare_command.ensures.app c.node_argument.ensures.rule in
    let two = c.in_ok-arg-2.ensures.shape c.node_argument-2.ensures.local ∙ ap₂ with_rule one c.node_argument-2.ensures.rule in
    let three = c.in_ok-arg-3.ensures.shape c.text_argument.ensures.local ∙ ap₂ with_rule two c.text_argument.ensures.rule in
    c.in_ok-command.ensures.shape c.text_argument-2.ensures.local ∙ ap₂ with_rule three c.text_argument-2.ensures.rule
