use Rattle.std.proofs.Common.{◌∙◌}
use Rattle.rexnode_command.specs.Reading.{command_with}
use Rattle.rexnode_command.proofs.reading.command_in.Goals as goal

pub returns : goal.returns
returns c =
    c.command_with.ensures
    ∙ (λ at. command_with (c.node_in.ensures at) (c.node_in-2.ensures at) (c.text_in.ensures at) (c.text_in-2.ensures at)
    (c.number_in.ensures.number at) (c.text_in-3.ensures at))
