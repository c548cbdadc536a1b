use Rattle.rexnode_command.proofs.Fits.{commands_fit}
use Rattle.rexnode_command.proofs.laws.commands_fit.Goals as goal

pub returns : goal.returns
returns c = commands_fit
